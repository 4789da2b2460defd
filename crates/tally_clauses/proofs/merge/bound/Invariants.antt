use Rattle.std.proofs.Common.{◌≡◌, ◌-◌, drop}
use Rattle.circuit_clauses.specs.Formulas.{extended, Fits}
use Rattle.tally_clauses.specs.Tallies.{bounds}
use Rattle.tally_clauses.proofs.merge.bound.Given as goal

abbrev pub invariant-bounding : goal.invariant-bounding
invariant-bounding l =
    let rest = bounds (drop l.i l.ones) l.others (l.limit - l.i) in
    record {
      formula : extended l.form rest ≡ extended l.fn.form (bounds l.ones l.others l.limit);
      fits : Fits (extended l.form rest);
    }
