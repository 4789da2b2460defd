use Rattle.std.proofs.Common.{◌≡◌, ◌*◌, ◌++◌, drop}
use Rattle.circuit_clauses.specs.Formulas.{extended, Fits}
use Rattle.tally_clauses.specs.Tallies.{pair_up}
use Rattle.tally_clauses.proofs.tally.pair_up.Given as goal

abbrev pub invariant-pairing : goal.invariant-pairing
invariant-pairing l =
    let all = pair_up l.limit l.fn.form.vars l.parts in
    let rest = pair_up l.limit l.form.vars (drop (2 * l.i) l.parts) in
    record {
      tallies : l.tallies ++ rest.tallies ≡ all.tallies;
      formula : extended l.form rest.steps ≡ extended l.fn.form all.steps;
      fits : Fits (extended l.form rest.steps);
    }
