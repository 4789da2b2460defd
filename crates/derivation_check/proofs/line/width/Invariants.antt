use Rattle.std.proofs.Common.{◌≡◌, ℕ, ◌<◌, Some, List, slice_get}
use Rattle.clause_store.specs.declared.lit.Lit.{Lit}
use Rattle.derivation_check.specs.Marked.{IsWithin}
use Rattle.derivation_check.proofs.line.width.Given as goal

abbrev pub invariant-measuring : goal.invariant-measuring
invariant-measuring l = (k : ℕ) (clause : List Lit) → k < l.id → slice_get l.store k ≡ Some clause → IsWithin l.size clause
