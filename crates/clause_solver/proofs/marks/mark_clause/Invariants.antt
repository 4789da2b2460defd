use Rattle.std.proofs.Common.{◌≡◌, ℕ, ◌||◌, ◌≤◌, length, take, is_some}
use Rattle.clause_store.specs.Signs.{sign_of}
use Rattle.clause_solver.specs.Analysis.{is_marked, marked_from}
use Rattle.clause_solver.proofs.marks.mark_clause.Given as goal

abbrev pub invariant-marking : goal.invariant-marking
invariant-marking l = record {
  len : length l.marks ≡ l.trail.vars;
  counted : l.total ≡ marked_from l.marks l.trail.lits l.start;
  grows : l.count ≤ l.total;
  marked : (v : ℕ) → is_marked l.marks v ≡ (is_marked l.initial.marks v || is_some (sign_of (take l.lit-index l.clause) v));
}
