use Rattle.std.proofs.Common.{◌≡◌, ◌-◌}
use Rattle.circuit_clauses.specs.Formulas.{extended}
use Rattle.tally_clauses.specs.Tallies.{levels}
use Rattle.tally_clauses.proofs.tally.tally_of.Given as goal

abbrev pub invariant-rising : goal.invariant-rising
invariant-rising l =
    let all = levels 32 l.limit l.fn.form.vars l.fn.parts in
    let rest = levels (32 - l._level) l.limit l.form.vars l.tallies in
    record {
      tallies : rest.tallies ≡ all.tallies;
      formula : extended l.form rest.steps ≡ extended l.fn.form all.steps;
    }
