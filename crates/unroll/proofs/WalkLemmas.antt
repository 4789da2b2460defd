-- A walk from cycle to cycle.
use Rattle.std.proofs.Common.{◌≡◌, ◌≢◌, ℕ, zero, suc, ◌-◌, List, refl, ◌∙◌, ap, subst, arith}
use Rattle.std.proofs.Math.Path.{fun_ext}
use Rattle.coco_base.specs.declared.setup.Setup.{Setup}
use Rattle.coco_base.specs.declared.unrolled.Node.{Node}
use Rattle.coco_model.specs.Carried.{start_word, stored_word, IsNext}
use Rattle.coco_model.specs.Known.{Row, ones}
use Rattle.coco_model.specs.Nodes.{starting_nodes}
use Rattle.coco_model.specs.Run.{before}
use Rattle.gate_graph.specs.Graphs.{Gates}
use Rattle.unroll.specs.NodeRows.{NodeRow, nodes_of, copies}
use Rattle.unroll.specs.NodeWords.{HoldsNodes}
use Rattle.unroll.specs.RootedRuns.{RootedRun, number_in, node_words}
use Rattle.unroll.specs.Walks.{AgreeOnLeaves, AreFirstLeaves, AreNextLeaves, AreLeaves}

-- all leaves of the first cycle
pub leaves_first : (g : Gates) (setup : Setup) (run : RootedRun) (t : ℕ) (words now : List Node) → t ≡ 0
    → HoldsNodes words (node_words setup (number_in g) run.row (before t))
    → (HoldsNodes words (start_word starting_nodes setup.table setup.words) → (node : NodeRow) → AgreeOnLeaves g.flat node (nodes_of now)
    → AreFirstLeaves g.flat setup node)
    → AreLeaves g setup run t words now
leaves_first g setup run zero words now e holds first = record {
  words_are = holds;
  given = λ node agrees. (first starts node agrees).given;
  leaves = λ node agrees.
      let f = (first starts node agrees).first in
      record { flops = f.flops; echoes = f.echoes; answers = f.answers; leaves = f.leaves; words = λ a k. refl };
}
  where
    starts : HoldsNodes words (start_word starting_nodes setup.table setup.words)
    starts = record { as_long = holds.as_long; each = holds.each }
leaves_first g setup run (suc t) words now e holds first = absurd (omega arith)

next_along : (g : Gates) (setup : Setup) (row row' : Row) (copied copied' : NodeRow) (word : ℕ → ℕ → Node) (node : NodeRow)
    → row ≡ row' → copied ≡ copied'
    → IsNext starting_nodes g.flat setup (ones row) copied word node
    (λ a k. stored_word starting_nodes (ones row) copied setup.memories a k (word a k))
    → IsNext starting_nodes g.flat setup (ones row') copied' word node
    (λ a k. stored_word starting_nodes (ones row') copied' setup.memories a k (word a k))
next_along g setup row row' copied copied' word node a b is =
    subst (λ (x : NodeRow). IsNext starting_nodes g.flat setup (ones row') x word node (λ a k. stored_word starting_nodes (ones row') x setup.memories a k (word a k))) b
    (subst (λ (x : Row). IsNext starting_nodes g.flat setup (ones x) copied word node (λ a k. stored_word starting_nodes (ones x) copied setup.memories a k (word a k))) a is)

stored_along : (setup : Setup) (row row' : Row) (copied copied' : NodeRow) (word : ℕ → ℕ → Node) (words : List Node)
    → row ≡ row' → copied ≡ copied'
    → HoldsNodes words (λ a k. stored_word starting_nodes (ones row) copied setup.memories a k (word a k))
    → HoldsNodes words (λ a k. stored_word starting_nodes (ones row') copied' setup.memories a k (word a k))
stored_along setup row row' copied copied' word words a b is =
    subst (λ (x : NodeRow). HoldsNodes words (λ a k. stored_word starting_nodes (ones row') x setup.memories a k (word a k))) b
    (subst (λ (x : Row). HoldsNodes words (λ a k. stored_word starting_nodes (ones x) copied setup.memories a k (word a k))) a is)

-- all leaves of a later cycle
pub leaves_next : (g : Gates) (setup : Setup) (run : RootedRun) (t : ℕ) (row : Row) (copied : NodeRow) (old_words words now : List Node)
    → t ≢ 0 → row ≡ run.row (before t) → ((b : ℕ) → copied b ≡ copies (number_in g (t - 1)) row b)
    → HoldsNodes old_words (node_words setup (number_in g) run.row (before t))
    → ((word : ℕ → ℕ → Node) → HoldsNodes old_words word → (node : NodeRow) → AgreeOnLeaves g.flat node (nodes_of now)
    → AreNextLeaves g.flat setup t row copied word node)
    → ((word : ℕ → ℕ → Node) → HoldsNodes old_words word
    → HoldsNodes words (λ a k. stored_word starting_nodes (ones row) copied setup.memories a k (word a k)))
    → AreLeaves g setup run t words now
leaves_next g setup run zero row copied old_words words now n is same holds next stores = absurd (n refl)
leaves_next g setup run (suc p) row copied old_words words now n is same holds next stores = record {
  words_are =
      let h = stored_along setup row (run.row p) copied (copies (number_in g p) (run.row p)) old words is copied_is (stores old holds) in
      record { as_long = h.as_long; each = h.each };
  given = λ node agrees. (next old holds node agrees).given;
  leaves = λ node agrees.
      let f = next_along g setup row (run.row p) copied (copies (number_in g p) (run.row p)) old node is copied_is (next old holds node agrees).next in
      record { flops = f.flops; echoes = f.echoes; answers = f.answers; leaves = f.leaves; words = λ a k. refl };
}
  where
    old : ℕ → ℕ → Node
    old = node_words setup (number_in g) run.row p

    earlier : suc p - 1 ≡ p
    earlier = omega arith

    copied_is : copied ≡ copies (number_in g p) (run.row p)
    copied_is = fun_ext (λ b. same b ∙ ap (λ s. copies (number_in g s) row b) earlier ∙ ap (λ (r : Row). copies (number_in g p) r b) is)
