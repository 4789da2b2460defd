use Rattle.std.proofs.Common.{◌+◌, ◌*◌, ◌<◌, length, sym, ◌∙◌, subst, arith}
use Rattle.circuit_clauses.specs.Formulas.{Fits}
use Rattle.tally_clauses.proofs.Turns.{pair_turn, pair_fits}
use Rattle.tally_clauses.proofs.tally.pair_up.Goals as goal

pub merge-requires : goal.merge-requires
merge-requires c =
    let lt : 2 * c.pairing.i + 1 < length c.args.parts.now = omega arith in
    rw (c.as_slice-one.ensures, c.as_slice-other.ensures) (pair_fits c.pairing.form c.args.limit c.args.parts.now c.pairing.i c.index-parts-i.result c.index-parts-i-in-pairing.result lt c.index-parts-i.is c.index-parts-i-in-pairing.is c.pairing.invariant.fits)

pub pairing-preserved : goal.pairing-preserved
pairing-preserved c =
    let inv = c.pairing.invariant in
    let lt : 2 * c.pairing.i + 1 < length c.args.parts.now = omega arith in
    let t = pair_turn c.pairing.form c.merge.new.form c.args.limit c.pairing.tallies c.push.new.self c.in_ok-sum.sum c.args.parts.now c.pairing.i c.index-parts-i.result c.index-parts-i-in-pairing.result lt c.index-parts-i.is c.index-parts-i-in-pairing.is (rw (c.as_slice-one.ensures, c.as_slice-other.ensures) at c.in_ok-sum.ensures.formula) (rw (c.as_slice-one.ensures, c.as_slice-other.ensures) at c.in_ok-sum.ensures.tally) c.in_ok-push.ensures.ok in
    record { tallies = t.0 ∙ inv.tallies; formula = t.1 ∙ inv.formula; fits = subst Fits (sym t.1) inv.fits }
