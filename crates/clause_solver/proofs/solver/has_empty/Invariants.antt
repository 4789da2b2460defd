use Rattle.std.proofs.Common.{◌≢◌, ℕ, ◌<◌, ◌≡◌, List, [], Some}
use Rattle.std.specs.Prelude.{slice_get}
use Rattle.clause_store.specs.declared.lit.Lit.{Lit}
use Rattle.clause_solver.proofs.solver.has_empty.Given as goal

abbrev pub invariant-seeking : goal.invariant-seeking
invariant-seeking l = (k : ℕ) (c : List Lit) → k < l.id → slice_get l.store k ≡ Some c → c ≢ []
