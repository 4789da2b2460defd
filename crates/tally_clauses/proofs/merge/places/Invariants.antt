use Rattle.std.proofs.Common.{◌≡◌, ◌-◌, ◌++◌}
use Rattle.circuit_clauses.specs.Formulas.{extended, Fits}
use Rattle.tally_clauses.specs.Tallies.{places}
use Rattle.tally_clauses.proofs.merge.places.Given as goal

abbrev pub invariant-placing : goal.invariant-placing
invariant-placing l =
    let all = places l.fn.form.vars l.ones l.others 0 l.count in
    let rest = places l.form.vars l.ones l.others l.done (l.count - l.done) in
    record {
      tally : l.tally ++ rest.tally ≡ all.tally;
      formula : extended l.form rest.steps ≡ extended l.fn.form all.steps;
      fits : Fits (extended l.form rest.steps);
    }
