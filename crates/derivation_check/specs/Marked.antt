-- Marks by variable: the signs of the clause that a chain of resolvents has so far.
use Rattle.std.specs.Prelude.{◌≡◌, ◌≢◌, ℕ, ◌+◌, ◌≤◌, Bool, true, false, cond, List, [], ◌∷◌, Option, Some, None, All, is_some, slice_get, slice_index_or}
use Rattle.std.specs.Option.{option_or}
use Rattle.clause_store.specs.declared.lit.Lit.{Lit}
use Rattle.clause_store.specs.declared.line.Cut.{Cut}
use Rattle.clause_store.specs.Signs.{Signs, sign_of}
use Rattle.clause_store.specs.Resolvents.{opposite, IsResolvent}

-- the signs that marks give; a variable beyond the list has none
abbrev pub signs_in : List (Option Bool) → Signs
signs_in marks v = slice_index_or marks v None

-- how many variables are marked
abbrev pub marked_count : List (Option Bool) → ℕ
marked_count [] = 0
marked_count (m ∷ marks) = cond (is_some m) 1 0 + marked_count marks

abbrev pub IsClear : List (Option Bool) → Type 0
IsClear marks = All (λ m. m ≡ None) marks

-- every variable of the clause has a place among n marks
abbrev pub IsWithin : ℕ → List Lit → Type 0
IsWithin size clause = (v : ℕ) → size ≤ v → sign_of clause v ≡ None

-- all literals of two clauses but those of the variable v, which has no opposite signs elsewhere
pub record IsMerged (v : ℕ) (c d r : Signs) : Type 0 where
  pub only : (w : ℕ) → w ≢ v → opposite (c w) (d w) ≡ false
  pub rest : (w : ℕ) → w ≢ v → r w ≡ option_or (c w) (d w)
  pub kept : r v ≡ c v

-- two clauses hold a variable other than v with opposite signs
pub record HasClash (v : ℕ) (c d : Signs) : Type 0 where
  pub var : ℕ
  pub other : var ≢ v
  pub clash : opposite (c var) (d var) ≡ true

-- resolving with the clause that a cut names leads from some signs to others
pub record IsCut (clauses : List (List Lit)) (cut : Cut) (c r : Signs) : Type 0 where
  pub clause : List Lit
  pub named : slice_get clauses cut.id ≡ Some clause
  pub resolvent : IsResolvent cut.var c (sign_of clause) r

-- a part of a clause was taken off: what was marked is that part and what still is
pub record IsTaken (front : List Lit) (old new : Signs) : Type 0 where
  pub was : (v : ℕ) (sign : Bool) → sign_of front v ≡ Some sign → old v ≡ Some sign
  pub gone : (v : ℕ) (sign : Bool) → sign_of front v ≡ Some sign → new v ≡ None
  pub left : (v : ℕ) → sign_of front v ≡ None → new v ≡ old v
