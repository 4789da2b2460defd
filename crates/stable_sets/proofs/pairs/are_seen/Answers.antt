use Rattle.gate_graph.proofs.Items.{each_more, some_at}
use Rattle.stable_sets.specs.Shown.{IsSeenPair}
use Rattle.stable_sets.proofs.OrderLemmas.{all_members}
use Rattle.stable_sets.proofs.pairs.are_seen.Goals as goal

pub pairs-preserved : goal.pairs-preserved
pairs-preserved c =
    let look = c.args.look.now in
    each_more (IsSeenPair look.graph.now.flat look.window look.rows.now look.unrolled.now c.args.probes.now)
    c.args.pairs.now c.pairs.place _ (some_at c.args.pairs.now c.pairs.place (record { bit = 0; cycle = 0 }) c.pairs-test.true)
    (c.in_ok-is_seen.ensures.0 c.if-not-branch.false) c.pairs.invariant

pub returns : goal.returns
returns c =
    let look = c.args.look.now in
    all_members (IsSeenPair look.graph.now.flat look.window look.rows.now look.unrolled.now c.args.probes.now)
    c.args.pairs.now c.pairs.place c.pairs-test.false c.pairs.invariant
