use Rattle.gate_graph.proofs.Items.{each_more, some_at}
use Rattle.coco_model.specs.Secure.{IsProbe}
use Rattle.stable_sets.proofs.OrderLemmas.{all_members, some_member}
use Rattle.stable_sets.proofs.order.are_probes.Goals as goal

pub returns-then-not-is_probe : goal.returns-then-not-is_probe
returns-then-not-is_probe c =
    some_member (IsProbe c.args.unrolled.now.bits c.args.clock c.args.unrolled.now.cycles) c.args.probes.now c.probes.place _ c.is_probe.result
    (some_at c.args.probes.now c.probes.place (record { bit = 0; cycle = 0 }) c.probes-test.true) c.if-not-is_probe.true c.is_probe.ensures.1

pub probes-preserved : goal.probes-preserved
probes-preserved c =
    each_more (IsProbe c.args.unrolled.now.bits c.args.clock c.args.unrolled.now.cycles) c.args.probes.now c.probes.place _
    (some_at c.args.probes.now c.probes.place (record { bit = 0; cycle = 0 }) c.probes-test.true)
    (c.is_probe.ensures.0 c.if-not-is_probe.false) c.probes.invariant

pub returns : goal.returns
returns c =
    all_members (IsProbe c.args.unrolled.now.bits c.args.clock c.args.unrolled.now.cycles) c.args.probes.now c.probes.place
    c.probes-test.false c.probes.invariant
