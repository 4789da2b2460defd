-- What a picker may answer: a place of a list of marks that is true.
use Rattle.std.specs.Prelude.{◌≡◌, ℕ, ◌<◌, ◌≤◌, Bool, true, false, List, Option, Some, slice_get, slice_index, slice_index_or, All, length, IfSome}
use Rattle.std.specs.Option.{IsSomeAnd}

-- the variable is still unset
abbrev pub IsOpen : List Bool → ℕ → Type 0
IsOpen unset var = slice_get unset var ≡ Some true

-- the same as a test; a variable that is not in the list is not unset
abbrev pub is_open : List Bool → ℕ → Bool
is_open unset var = slice_index_or unset var false

-- every variable is set
abbrev pub AllAreSet : List Bool → Type 0
AllAreSet unset = All (λ b. b ≡ false) unset

-- a goes before b: it has the greater number, or the same one and is not the greater variable. A variable beyond
-- the list of numbers has 0
pub record GoesFirst (numbers : List ℕ) (a b : ℕ) : Type 0 where
  pub number : slice_index numbers b ≤ slice_index numbers a
  pub tie : b < a → slice_index numbers b < slice_index numbers a

-- of all variables that are unset, this one goes first
pub record IsFirstOf (numbers : List ℕ) (unset : List Bool) (var : ℕ) : Type 0 where
  pub is_open : IsOpen unset var
  pub first : (other : ℕ) → IsOpen unset other → GoesFirst numbers var other

-- what was found goes before a variable
abbrev pub Beats : List ℕ → Option ℕ → ℕ → Type 0
Beats numbers found var = IsSomeAnd found (λ v. GoesFirst numbers v var)

-- a variable that is unset and has a number above 0
pub record IsCandidate (numbers : List ℕ) (unset : List Bool) (var : ℕ) : Type 0 where
  pub in_range : var < length numbers
  pub is_open : IsOpen unset var
  pub positive : 0 < slice_index numbers var

abbrev pub IsFound : List ℕ → List Bool → Option ℕ → Type 0
IsFound numbers unset found = IfSome found (IsCandidate numbers unset)
