use Rattle.std.proofs.Common.{sym, ◌∙◌, subst, arith}
use Rattle.circuit_clauses.specs.Formulas.{Fits}
use Rattle.tally_clauses.proofs.Turns.{add_turn, add_fits}
use Rattle.tally_clauses.proofs.tally.add_up.Goals as goal

pub merge-requires : goal.merge-requires
merge-requires c =
    rw (c.as_slice.ensures, c.as_slice-in-summing.ensures) (add_fits c.summing.form c.args.limit c.summing.sum c.args.parts.now c.summing.part-index c.part-item.result (omega arith) c.part-item.is c.summing.invariant.fits)

pub summing-preserved : goal.summing-preserved
summing-preserved c =
    let inv = c.summing.invariant in
    let t = add_turn c.summing.form c.merge.new.form c.args.limit c.summing.sum c.in_ok-sum.sum c.args.parts.now c.summing.part-index c.part-item.result (omega arith) c.part-item.is (rw (c.as_slice.ensures, c.as_slice-in-summing.ensures) at c.in_ok-sum.ensures.formula) (rw (c.as_slice.ensures, c.as_slice-in-summing.ensures) at c.in_ok-sum.ensures.tally) in
    record { tally = t.0 ∙ inv.tally; formula = t.1 ∙ inv.formula; fits = subst Fits (sym t.1) inv.fits }
