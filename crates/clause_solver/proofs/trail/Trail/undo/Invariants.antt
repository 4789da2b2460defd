use Rattle.std.proofs.Common.{◌≡◌, ◌+◌, length, take}
use Rattle.clause_solver.proofs.trail.Trail.undo.Given as goal

abbrev pub invariant-popping : goal.invariant-popping
invariant-popping l = record {
  left : length l.self.lits + l.counter ≡ length l.initial.self.lits + l.place;
  lits : l.self.lits ≡ take (length l.self.lits) l.initial.self.lits;
  reasons : l.self.reasons ≡ take (length l.self.lits) l.initial.self.reasons;
  starts : l.self.starts ≡ l.initial.self.starts;
  vars : l.self.vars ≡ l.initial.self.vars;
}
