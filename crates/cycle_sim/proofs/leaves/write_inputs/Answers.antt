use Rattle.std.proofs.Common.{◌∙◌, ap, arith}
use Rattle.coco_model.specs.Carried.{start_state, entry_of}
use Rattle.coco_model.specs.Known.{parts}
use Rattle.cycle_sim.specs.Writes.{input_write}
use Rattle.cycle_sim.proofs.WriteLemmas.{member_at, mapped_part, mapped_all}
use Rattle.cycle_sim.proofs.leaves.write_inputs.Goals as goal

pub bounds-row-plan : goal.bounds-row-plan
bounds-row-plan c =
    let inside = c.requires c.plan-item.result (member_at c.args.inputs.now c.plans.plan-index c.plan-item.result c.plans-test.true c.plan-item.is) in
    let long = c.plans.auto.row in
    omega arith

pub plans-preserved : goal.plans-preserved
plans-preserved c = λ table. mapped_part (input_write table c.args.cycle) c.args.inputs.now c.plans.plan-index c.plan-item.result c.args.row.now c.plans.row
    c.start_part.result c.plans-test.true c.plan-item.is
    (c.start_part.ensures table c.args.cycle
    ∙ ap (start_state parts table c.args.cycle) (c.entry_of.ensures ∙ ap (λ vs. entry_of vs c.args.cycle) c.as_slice.ensures))
    (c.requires c.plan-item.result (member_at c.args.inputs.now c.plans.plan-index c.plan-item.result c.plans-test.true c.plan-item.is))
    (c.plans.invariant table)

pub returns : goal.returns
returns c = λ table. mapped_all (input_write table c.args.cycle) c.args.inputs.now c.plans.plan-index c.args.row.now c.plans.row c.plans-test.false (c.plans.invariant table)
