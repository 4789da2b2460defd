use Rattle.std.proofs.Common.{◌-◌}
use Rattle.clause_store.specs.Derivations.{clauses_of}
use Rattle.clause_solver.specs.Propagation.{Extends}
use Rattle.clause_solver.specs.Watches.{IsWatched}
use Rattle.clause_solver.proofs.propagate.propagate.Given as goal

abbrev pub invariant-propagating : goal.invariant-propagating
invariant-propagating l = record {
  watched : IsWatched (clauses_of l.store l.lines) l.trail l.watches l.next;
  extends : Extends l.initial.trail l.trail;
}

abbrev pub decreases-propagating : goal.decreases-propagating
decreases-propagating l = l.trail.vars - l.next
