use Rattle.std.proofs.Common.{◌≡◌, ℕ, ◌+◌, ◌-◌, List, ◌∷◌, ◌++◌, length, take, drop, sym, ◌∙◌, ap, subst, arith}
use Rattle.std.proofs.lemmas.List.{length-replicate}
use Rattle.coco_base.specs.declared.setup.WordPlan.{WordPlan}
use Rattle.coco_base.specs.declared.unrolled.Node.{Node}
use Rattle.coco_base.specs.declared.unrolled.Node.TheVariants.{Nothing}
use Rattle.coco_model.specs.Carried.{start_word}
use Rattle.coco_model.specs.Nodes.{starting_nodes}
use Rattle.gate_graph.proofs.Items.{item_at}
use Rattle.cycle_sim.specs.Memories.{word_bits}
use Rattle.unroll.specs.NodeWords.{HoldsNodes}
use Rattle.unroll.proofs.WordLemmas.{starts_none, starts_more}
use Rattle.unroll.proofs.WriteLemmas.{member_at, take_front}
use Rattle.unroll.proofs.memory.start_words.Goals as goal

pub words-init : goal.words-init
words-init c = record {
  within = omega arith;
  long = ap length (c.in_ok-memory.ensures.items_if_clones_equal (λ y e. e)) ∙ length-replicate word_bits Nothing;
  holds = starts_none c.args.table.now c.args.words.now c.in_ok-memory.memory.items (c.in_ok-memory.ensures.items_if_clones_equal (λ y e. e));
}

pub place_word-requires-clause-word : goal.place_word-requires-clause-word
place_word-requires-clause-word c =
    let within = c.words.invariant.within in
    let more = c.words-test.true in
    c.requires.words c.index-words-rest.result (member_at c.args.words.now (c.words.rest - 1) c.index-words-rest.result (omega arith) c.index-words-rest.is)

pub place_word-requires-clause-labelled : goal.place_word-requires-clause-labelled
place_word-requires-clause-labelled c =
    let within = c.words.invariant.within in
    let more = c.words-test.true in
    c.requires.labelled c.index-words-rest.result (member_at c.args.words.now (c.words.rest - 1) c.index-words-rest.result (omega arith) c.index-words-rest.is)

pub place_word-requires-clause-memory : goal.place_word-requires-clause-memory
place_word-requires-clause-memory c = ap length c.as_mut_slice.ensures.value ∙ c.words.invariant.long

pub words-preserved : goal.words-preserved
words-preserved c =
    let ws = c.args.words.now in
    let x = c.index-words-rest.result in
    let table = c.args.table.now in
    let new = c.place_word.new.memory in
    let within = c.words.invariant.within in
    let more = c.words-test.true in
    let next : (c.words.rest - 1) + 1 ≡ c.words.rest = omega arith in
    let dropped : drop (c.words.rest - 1) ws ≡ x ∷ drop c.words.rest ws =
    item_at ws (c.words.rest - 1) x (omega arith) c.index-words-rest.is ∙ ap (λ n. x ∷ drop n ws) next in
    let long_new : length new ≡ c.words.memory.len = let a = c.place_word.auto.memory in let b = c.as_mut_slice.ensures.len in omega arith in
    let kept = take c.words.memory.len (new ++ drop (length new) c.words.memory.items) in
    let same : kept ≡ new = take_front new _ c.words.memory.len long_new in
    let full : length new ≡ word_bits = let a = c.place_word.auto.memory in let b = ap length c.as_mut_slice.ensures.value in let d = c.words.invariant.long in omega arith in
    record {
      within = omega arith;
      long = ap length same ∙ full;
      holds = subst (λ (us : List WordPlan). HoldsNodes kept (start_word starting_nodes table us)) (sym dropped)
          (subst (λ (m : List Node). HoldsNodes m (start_word starting_nodes table (x ∷ drop c.words.rest ws))) (sym same)
          (starts_more table x (drop c.words.rest ws) c.words.memory.items new
          (c.requires.words x (member_at ws (c.words.rest - 1) x (omega arith) c.index-words-rest.is)).address c.words.invariant.holds
          (rw c.as_mut_slice.ensures.value at c.place_word.ensures)));
    }

pub returns : goal.returns
returns c =
    let none : c.words.rest ≡ 0 = let e = c.words-test.false in omega arith in
    subst (λ (n : ℕ). HoldsNodes c.words.memory.items (start_word starting_nodes c.args.table.now (drop n c.args.words.now))) none c.words.invariant.holds
