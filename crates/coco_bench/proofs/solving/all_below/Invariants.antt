use Rattle.std.proofs.Common.{◌≡◌, ℕ, ◌<◌, List, Some}
use Rattle.std.specs.Prelude.{slice_get}
use Rattle.clause_store.specs.declared.lit.Lit.{Lit}
use Rattle.clause_solver.specs.Propagation.{IsOver}
use Rattle.coco_bench.proofs.solving.all_below.Given as goal

abbrev pub invariant-clauses : goal.invariant-clauses
invariant-clauses l = (k : ℕ) (c : List Lit) → k < l.id → slice_get l.store k ≡ Some c → IsOver l.vars c
