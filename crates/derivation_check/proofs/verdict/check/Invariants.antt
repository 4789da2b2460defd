use Rattle.std.proofs.Common.{◌≡◌, ℕ, ◌<◌, length, take, Some, slice_get}
use Rattle.std.specs.List.{All}
use Rattle.clause_store.specs.declared.line.Line.{Line}
use Rattle.clause_store.specs.Signs.{Ascends}
use Rattle.clause_store.specs.Derivations.{clauses_of, earlier, IsValidLine}
use Rattle.derivation_check.specs.Marked.{IsClear, IsWithin}
use Rattle.derivation_check.proofs.verdict.check.Given as goal

abbrev pub invariant-checking : goal.invariant-checking
invariant-checking l = record {
  size : length l.marks ≡ length l.initial.marks;
  clear : IsClear l.marks;
  ascending : All Ascends (clauses_of l.store (take l.place l.lines));
  within : All (IsWithin (length l.marks)) (clauses_of l.store (take l.place l.lines));
  valid : (k : ℕ) (line : Line) → k < l.place → slice_get l.lines k ≡ Some line → IsValidLine (earlier l.store l.lines k) line;
}
