use Rattle.std.proofs.Common.{◌≡◌, ℕ, false, sym, ◌∙◌, ap, subst, arith}
use Rattle.std.proofs.lemmas.List.{get_or_default}
use Rattle.std.proofs.lemmas.List.Elements.{Contains-get_or}
use Rattle.coco_base.specs.declared.setup.Start.TheVariants.{Public}
use Rattle.coco_model.specs.Carried.{start_state, IsLabelled}
use Rattle.coco_model.specs.Nodes.{starting_nodes}
use Rattle.unroll.specs.NodeWords.{IsPlaced, plan_node}
use Rattle.unroll.proofs.WordLemmas.{placed_more}
use Rattle.unroll.proofs.memory.place_starts.Goals as goal

pub start_node-requires-clause-labelled : goal.start_node-requires-clause-labelled
start_node-requires-clause-labelled c =
    let low = c.bits-test.true in
    let many = c.requires.bits in
    subst (IsLabelled c.args.table.now) (sym (get_or_default c.args.bits.now c.bits.bit _ (Public false) (omega arith)))
    (c.requires.labelled _ (Contains-get_or c.args.bits.now c.bits.bit (Public false) (omega arith)))

pub bits-preserved : goal.bits-preserved
bits-preserved c =
    let low = c.bits-test.true in
    let room = c.requires.inside in
    let many = c.requires.bits in
    placed_more c.args.place c.bits.bit (plan_node c.args.table.now c.args.bits.now) c.args.memory.now c.bits.memory c.start_node.result
    (c.start_node.ensures ∙ ap (start_state starting_nodes c.args.table.now 0) (get_or_default c.args.bits.now c.bits.bit _ (Public false) (omega arith)))
    (omega arith) c.bits.invariant

pub returns : goal.returns
returns c =
    let end : c.bits.bit ≡ 32 = let a = c.bits-test.false in let b = c.bits.auto.bit-end in omega arith in
    subst (λ (n : ℕ). IsPlaced c.args.place n (plan_node c.args.table.now c.args.bits.now) c.args.memory.now c.bits.memory) end c.bits.invariant
