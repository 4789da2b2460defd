use Rattle.stable_sets.proofs.OrderLemmas.{ascending_all, ascending_more, ascending_not}
use Rattle.stable_sets.proofs.order.are_ascending.Goals as goal

pub returns-then-not-comes_before : goal.returns-then-not-comes_before
returns-then-not-comes_before c =
    ascending_not c.args.probes.now c.probes.place (record { bit = 0; cycle = 0 }) c.comes_before.result c.probes.auto.place
    c.probes-test.true c.if-not-comes_before.true c.comes_before.ensures.1

pub probes-preserved : goal.probes-preserved
probes-preserved c =
    ascending_more c.args.probes.now c.probes.place (record { bit = 0; cycle = 0 }) c.probes.auto.place c.probes-test.true
    (c.comes_before.ensures.0 c.if-not-comes_before.false) c.probes.invariant

pub returns : goal.returns
returns c = ascending_all c.args.probes.now c.probes.place c.probes-test.false c.probes.invariant
