use Rattle.std.proofs.Common.{sym, ◌∙◌, subst, arith}
use Rattle.circuit_clauses.specs.Formulas.{Fits, extended}
use Rattle.tally_clauses.specs.Tallies.{place}
use Rattle.tally_clauses.proofs.Turns.{sum_turn, sum_fits, sum_ended}
use Rattle.tally_clauses.proofs.merge.place.Goals as goal

pub or_and-requires : goal.or_and-requires
or_and-requires c =
    rw c.at_least.ensures (sum_fits c.adding.form c.adding.sum c.args.ones.now c.args.others.now c.args.count c.adding.i (omega arith) (omega arith) c.adding.invariant.fits)

pub adding-preserved : goal.adding-preserved
adding-preserved c =
    let inv = c.adding.invariant in
    let t = sum_turn c.adding.form c.or_and.new.self c.adding.sum c.in_ok-sum.sum c.args.ones.now c.args.others.now c.args.count c.adding.i (omega arith) (omega arith) (rw c.at_least.ensures at c.in_ok-sum.ensures.formula) (rw c.at_least.ensures at c.in_ok-sum.ensures.signal) in
    record {
      signal = t.0 ∙ inv.signal;
      formula = t.1 ∙ inv.formula;
      fits = subst Fits (sym t.1) inv.fits;
    }

pub returns-clause-signal : goal.returns-clause-signal
returns-clause-signal c =
    let all = place c.args.form.now.vars c.args.ones.now c.args.others.now c.args.count in
    (sum_ended c.adding.form c.adding.sum c.args.ones.now c.args.others.now c.args.count c.adding.i all.signal (extended c.args.form.now all.steps) (omega arith) c.adding.invariant.signal c.adding.invariant.formula).0

pub returns-clause-formula : goal.returns-clause-formula
returns-clause-formula c =
    let all = place c.args.form.now.vars c.args.ones.now c.args.others.now c.args.count in
    (sum_ended c.adding.form c.adding.sum c.args.ones.now c.args.others.now c.args.count c.adding.i all.signal (extended c.args.form.now all.steps) (omega arith) c.adding.invariant.signal c.adding.invariant.formula).1
