use Rattle.std.proofs.Common.{◌≡◌, ℕ, ◌+◌, ◌-◌, List, ◌∷◌, drop, sym, ◌∙◌, ap, subst, arith}
use Rattle.coco_base.specs.declared.setup.MemPlan.{MemPlan}
use Rattle.coco_model.specs.Carried.{stored_word}
use Rattle.coco_model.specs.Known.{ones}
use Rattle.coco_model.specs.Nodes.{starting_nodes}
use Rattle.coco_model.specs.Stepped.{row_of}
use Rattle.gate_graph.proofs.Items.{item_at}
use Rattle.unroll.specs.NodeRows.{nodes_of}
use Rattle.unroll.specs.NodeWords.{HoldsNodes}
use Rattle.unroll.proofs.memory.store.Goals as goal

pub ports-preserved : goal.ports-preserved
ports-preserved c =
    let v = ones (row_of c.args.past.parts.now) in
    let copied = nodes_of c.args.past.copies.now in
    let mems = c.args.memories.now in
    let x = c.index-memories-rest.result in
    let within = c.ports.invariant.within in
    let more = c.ports-test.true in
    let next : (c.ports.rest - 1) + 1 ≡ c.ports.rest = omega arith in
    let dropped : drop (c.ports.rest - 1) mems ≡ x ∷ drop c.ports.rest mems =
    item_at mems (c.ports.rest - 1) x (omega arith) c.index-memories-rest.is ∙ ap (λ n. x ∷ drop n mems) next in
    record {
      within = omega arith;
      holds = λ word h. subst (λ (ms : List MemPlan). HoldsNodes c.store_word.new.memory (λ a k. stored_word starting_nodes v copied ms a k (word a k))) (sym dropped)
          (c.store_word.ensures (λ a k. stored_word starting_nodes v copied (drop c.ports.rest mems) a k (word a k)) (c.ports.invariant.holds word h));
    }

pub returns : goal.returns
returns c = λ word h.
    let v = ones (row_of c.args.past.parts.now) in
    let copied = nodes_of c.args.past.copies.now in
    let none : c.ports.rest ≡ 0 = let e = c.ports-test.false in omega arith in
    subst (λ (n : ℕ). HoldsNodes c.ports.memory (λ a k. stored_word starting_nodes v copied (drop n c.args.memories.now) a k (word a k))) none (c.ports.invariant.holds word h)
