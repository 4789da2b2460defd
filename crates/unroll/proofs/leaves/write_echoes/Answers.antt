use Rattle.std.proofs.Common.{false, get_or, arith}
use Rattle.std.proofs.lemmas.List.{get_or_default}
use Rattle.std.proofs.lemmas.List.Elements.{Contains-get_or}
use Rattle.coco_base.specs.declared.netlist.Wire.TheVariants.{Const}
use Rattle.coco_base.specs.declared.setup.EchoPlan.{EchoPlan}
use Rattle.unroll.specs.NodeRows.{nodes_of}
use Rattle.unroll.specs.NodeWrites.{echo_write}
use Rattle.unroll.proofs.WriteLemmas.{mapped_part}
use Rattle.unroll.proofs.leaves.write_echoes.Goals as goal

abbrev still : EchoPlan
still = record { bit = 0; source = Const false }

pub bounds-row-plan : goal.bounds-row-plan
bounds-row-plan c =
    let inside = c.requires _ (Contains-get_or c.args.echoes.now c.plans.plan-index still c.plans-test.true) in
    let long = c.plans.auto.row in
    omega arith

pub plans-preserved : goal.plans-preserved
plans-preserved c = mapped_part (echo_write (nodes_of c.args.copies.now)) c.args.echoes.now c.plans.plan-index (get_or c.args.echoes.now c.plans.plan-index still) c.args.row.now c.plans.row
    c.wire_node.result c.plans-test.true (get_or_default c.args.echoes.now c.plans.plan-index still _ c.plans-test.true)
    c.wire_node.ensures
    (c.requires _ (Contains-get_or c.args.echoes.now c.plans.plan-index still c.plans-test.true))
    c.plans.invariant
