use Rattle.std.proofs.Common.{◌<◌, get_or, sym, subst}
use Rattle.std.specs.Prelude.{◌↔◌, Contains, IsTrue}
use Rattle.gate_graph.proofs.Items.{some_at}
use Rattle.stable_sets.proofs.PairLemmas.{reached_in}
use Rattle.stable_sets.proofs.pairs.reaches.Goals as goal

pub reached-requires-clause-places : goal.reached-requires-clause-places
reached-requires-clause-places c =
    let look = c.args.look.now in
    let inside = subst (λ n. c.args.cycle < n) (sym c.requires.look.are_rows.as_long) (c.lasts.ensures.0 c.if-not-lasts.false).below in
    c.requires.look.are_rows.each c.args.cycle _ (some_at look.rows.now c.args.cycle c.index-look-cycle.result inside)

pub returns : goal.returns
returns c =
    let look = c.args.look.now in
    let lasts = c.lasts.ensures.0 c.if-not-lasts.false in
    let inside = subst (λ n. c.args.cycle < n) (sym c.requires.look.are_rows.as_long) lasts.below in
    reached_in look.graph.now.flat look.unrolled.now.cycles look.window look.rows.now c.args.probe c.args.cycle c.args.leaf
    (get_or look.rows.now c.args.cycle c.index-look-cycle.result) c.in_ok-leaves.leaves c.has_leaf.result lasts
    (some_at look.rows.now c.args.cycle c.index-look-cycle.result inside) c.in_ok-leaves.ensures.leaves
    (subst (λ ls. IsTrue c.has_leaf.result ↔ Contains ls c.args.leaf) c.as_slice.ensures c.has_leaf.ensures)
