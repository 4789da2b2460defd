use Rattle.std.proofs.Common.{◌≡◌, ◌-◌, drop}
use Rattle.circuit_clauses.specs.Formulas.{extended, Fits}
use Rattle.tally_clauses.specs.Tallies.{sum_of, place}
use Rattle.tally_clauses.proofs.merge.place.Given as goal

abbrev pub invariant-adding : goal.invariant-adding
invariant-adding l =
    let all = place l.fn.form.vars l.ones l.others l.count in
    let rest = sum_of l.form.vars l.sum (drop l.i l.ones) l.others (l.count - l.i) in
    record {
      signal : rest.signal ≡ all.signal;
      formula : extended l.form rest.steps ≡ extended l.fn.form all.steps;
      fits : Fits (extended l.form rest.steps);
    }
