use Rattle.std.proofs.Common.{◌≡◌}
use Rattle.clause_solver.proofs.BeginFacts.{IsBeginning}
use Rattle.clause_solver.proofs.turn.watch_store.Given as goal

abbrev pub invariant-beginning : goal.invariant-beginning
invariant-beginning l = record {
  beginning : IsBeginning l.store l.trail l.watches l.id;
  vars : l.trail.vars ≡ l.initial.trail.vars;
}
