-- What a check of a derivation may answer.
use Rattle.std.specs.Prelude.{◌≡◌, ◌≢◌, ℕ, ◌+◌, ◌<◌, List, [], Some, slice_get, All}
use Rattle.std.specs.List.{Contains}
use Rattle.clause_store.specs.declared.lit.Lit.{Lit}
use Rattle.clause_store.specs.declared.line.Line.{Line}
use Rattle.clause_store.specs.Derivations.{IsValidLine, AllValid, earlier, clauses_of}
use Rattle.derivation_check.specs.declared.verdict.Verdict.{Verdict}
use Rattle.derivation_check.specs.declared.verdict.Verdict.TheVariants.{Wrong, Empty, NoEmpty}

-- the first line that is not valid, numbered from 1
pub record IsFirstWrong (store : List (List Lit)) (lines : List Line) (number : ℕ) : Type 0 where
  pub place : ℕ
  pub line : Line
  pub at : slice_get lines place ≡ Some line
  pub numbered : number ≡ place + 1
  pub wrong : IsValidLine (earlier store lines place) line → ⊥
  pub before : (k : ℕ) (earlier_line : Line) → k < place → slice_get lines k ≡ Some earlier_line →
      IsValidLine (earlier store lines k) earlier_line

abbrev pub IsVerdict : List (List Lit) → List Line → Verdict → Type 0
IsVerdict store lines (Wrong number) = IsFirstWrong store lines number
IsVerdict store lines Empty = AllValid store lines × Contains (clauses_of store lines) []
IsVerdict store lines NoEmpty = AllValid store lines × All (λ c. c ≢ []) (clauses_of store lines)
