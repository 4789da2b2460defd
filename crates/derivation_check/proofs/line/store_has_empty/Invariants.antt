use Rattle.std.proofs.Common.{◌≡◌, ◌≢◌, ℕ, ◌<◌, Some, List, [], slice_get}
use Rattle.clause_store.specs.declared.lit.Lit.{Lit}
use Rattle.derivation_check.proofs.line.store_has_empty.Given as goal

abbrev pub invariant-looking : goal.invariant-looking
invariant-looking l = (k : ℕ) (clause : List Lit) → k < l.id → slice_get l.store k ≡ Some clause → clause ≢ []
