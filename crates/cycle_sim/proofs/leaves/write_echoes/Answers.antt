use Rattle.std.proofs.Common.{false, get_or, arith}
use Rattle.std.proofs.lemmas.List.{get_or_default}
use Rattle.std.proofs.lemmas.List.Elements.{Contains-get_or}
use Rattle.coco_base.specs.declared.netlist.Wire.TheVariants.{Const}
use Rattle.coco_base.specs.declared.setup.EchoPlan.{EchoPlan}
use Rattle.coco_model.specs.Stepped.{row_of}
use Rattle.cycle_sim.specs.Writes.{echo_write}
use Rattle.cycle_sim.proofs.WriteLemmas.{mapped_part}
use Rattle.cycle_sim.proofs.leaves.write_echoes.Goals as goal

abbrev still : EchoPlan
still = record { bit = 0; source = Const false }

pub bounds-row-plan : goal.bounds-row-plan
bounds-row-plan c =
    let inside = c.requires _ (Contains-get_or c.args.echoes.now c.plans.plan-index still c.plans-test.true) in
    let long = c.plans.auto.row in
    omega arith

pub plans-preserved : goal.plans-preserved
plans-preserved c = mapped_part (echo_write (row_of c.args.before.now)) c.args.echoes.now c.plans.plan-index (get_or c.args.echoes.now c.plans.plan-index still) c.args.row.now c.plans.row
    c.wire_part.result c.plans-test.true (get_or_default c.args.echoes.now c.plans.plan-index still _ c.plans-test.true)
    c.wire_part.ensures
    (c.requires _ (Contains-get_or c.args.echoes.now c.plans.plan-index still c.plans-test.true))
    c.plans.invariant
