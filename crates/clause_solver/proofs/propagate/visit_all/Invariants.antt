use Rattle.std.proofs.Common.{◌≡◌, ◌-◌, Some, length}
use Rattle.std.specs.Prelude.{slice_get}
use Rattle.clause_store.specs.Derivations.{clauses_of}
use Rattle.clause_solver.specs.Propagation.{Extends}
use Rattle.clause_solver.specs.Watches.{listed_under, opposite_of, IsGuarded, IsPending}
use Rattle.clause_solver.proofs.propagate.visit_all.Given as goal

abbrev pub invariant-visiting : goal.invariant-visiting
invariant-visiting l = record {
  guarded : IsGuarded (clauses_of l.store l.lines) l.trail l.watches;
  extends : Extends l.initial.trail l.trail;
  at_place : slice_get l.trail.lits l.place ≡ Some (opposite_of l.lit);
  pending : IsPending (clauses_of l.store l.lines) l.trail l.watches l.lit l.place l.entry;
}

abbrev pub decreases-visiting : goal.decreases-visiting
decreases-visiting l = length (listed_under l.watches l.lit) - l.entry
