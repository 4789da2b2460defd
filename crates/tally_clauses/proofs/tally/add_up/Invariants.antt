use Rattle.std.proofs.Common.{◌≡◌, [], drop}
use Rattle.circuit_clauses.specs.Formulas.{extended, Fits}
use Rattle.tally_clauses.specs.Tallies.{add_up}
use Rattle.tally_clauses.proofs.tally.add_up.Given as goal

abbrev pub invariant-summing : goal.invariant-summing
invariant-summing l =
    let all = add_up l.limit l.fn.form.vars [] l.parts in
    let rest = add_up l.limit l.form.vars l.sum (drop l.part-index l.parts) in
    record {
      tally : rest.tally ≡ all.tally;
      formula : extended l.form rest.steps ≡ extended l.fn.form all.steps;
      fits : Fits (extended l.form rest.steps);
    }
