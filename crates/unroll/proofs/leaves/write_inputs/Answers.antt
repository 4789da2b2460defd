use Rattle.std.proofs.Common.{List, sym, ◌∙◌, ap, subst, arith}
use Rattle.coco_base.specs.declared.setup.Start.{Start}
use Rattle.coco_model.specs.Carried.{start_state, entry_of, IsLabelled}
use Rattle.coco_model.specs.Nodes.{starting_nodes}
use Rattle.unroll.specs.NodeWrites.{input_write}
use Rattle.unroll.proofs.WriteLemmas.{member_at, mapped_part, mapped_all}
use Rattle.unroll.proofs.leaves.write_inputs.Goals as goal

pub start_node-requires-clause-labelled : goal.start_node-requires-clause-labelled
start_node-requires-clause-labelled c =
    subst (IsLabelled c.args.table.now) (sym (c.entry_of.ensures ∙ ap (λ (vs : List Start). entry_of vs c.args.cycle) c.as_slice.ensures))
    (c.requires.labelled c.plan-item.result (member_at c.args.inputs.now c.plans.plan-index c.plan-item.result c.plans-test.true c.plan-item.is))

pub bounds-row-plan : goal.bounds-row-plan
bounds-row-plan c =
    let inside = c.requires.bits c.plan-item.result (member_at c.args.inputs.now c.plans.plan-index c.plan-item.result c.plans-test.true c.plan-item.is) in
    let long = c.plans.auto.row in
    omega arith

pub plans-preserved : goal.plans-preserved
plans-preserved c = mapped_part (input_write c.args.table.now c.args.cycle) c.args.inputs.now c.plans.plan-index c.plan-item.result c.args.row.now c.plans.row
    c.start_node.result c.plans-test.true c.plan-item.is
    (c.start_node.ensures
    ∙ ap (start_state starting_nodes c.args.table.now c.args.cycle) (c.entry_of.ensures ∙ ap (λ (vs : List Start). entry_of vs c.args.cycle) c.as_slice.ensures))
    (c.requires.bits c.plan-item.result (member_at c.args.inputs.now c.plans.plan-index c.plan-item.result c.plans-test.true c.plan-item.is))
    c.plans.invariant

pub returns : goal.returns
returns c = mapped_all (input_write c.args.table.now c.args.cycle) c.args.inputs.now c.plans.plan-index c.args.row.now c.plans.row c.plans-test.false c.plans.invariant
