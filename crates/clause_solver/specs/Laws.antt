-- Laws over derivations of valid and new lines.
use Rattle.std.specs.Prelude.{◌≡◌, ℕ, ◌<◌, ◌^◌, List, [], length, All, Contains}
use Rattle.clause_store.specs.declared.lit.Lit.{Lit}
use Rattle.clause_store.specs.declared.line.Line.{Line}
use Rattle.clause_store.specs.Signs.{Ascends}
use Rattle.clause_solver.specs.Propagation.{IsOver}
use Rattle.clause_solver.specs.Outcomes.{IsProgress}

-- over n variables there are fewer valid and new lines that are not empty than 3 to the n
abbrev pub FewLines : Type 0
FewLines =
    (store : List (List Lit)) (lines : List Line) (vars : ℕ) → All Ascends store → All (IsOver vars) store
    → IsProgress store lines → length lines < 3 ^ vars

-- where a clause is empty there is no valid and new line that is not
abbrev pub NoneAfterEmpty : Type 0
NoneAfterEmpty = (store : List (List Lit)) (lines : List Line) → Contains store [] → IsProgress store lines → lines ≡ []
