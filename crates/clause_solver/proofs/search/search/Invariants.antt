use Rattle.std.proofs.Common.{◌≡◌, ◌-◌, length}
use Rattle.clause_store.specs.Derivations.{clauses_of}
use Rattle.clause_solver.specs.Watches.{IsWatched}
use Rattle.clause_solver.proofs.search.search.Given as goal

abbrev pub invariant-searching : goal.invariant-searching
invariant-searching g l = record {
  watched : IsWatched (clauses_of l.store l.lines) l.trail l.watches l.next;
  vars : l.trail.vars ≡ l.initial.trail.vars;
}

abbrev pub decreases-searching : goal.decreases-searching
decreases-searching g l = l.trail.vars - length l.trail.lits
