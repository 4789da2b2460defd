-- Which lines of a derivation its last line rests on, as a list of marks.
use Rattle.std.specs.Prelude.{◌≡◌, ℕ, ◌+◌, ◌<◌, ◌≤◌, Bool, false, ◌⊎◌, List, Some, IsTrue, length, slice_get, slice_index, slice_index_or, All, Contains}
use Rattle.clause_store.specs.declared.line.Line.{Line}
use Rattle.derivation_check.specs.Trimmed.{numbers_of}

-- the mark at the place is set
abbrev pub IsUsed : List Bool → ℕ → Type 0
IsUsed used k = IsTrue (slice_index_or used k false)

-- the marks at the places of lines that are named are set, and no others
pub record Adds (count : ℕ) (numbers : List ℕ) (old new : List Bool) : Type 0 where
  pub len : length new ≡ length old
  pub kept : (k : ℕ) → IsUsed old k → IsUsed new k
  pub named : (k : ℕ) → Contains numbers (count + k) → IsUsed new k
  pub only : (k : ℕ) → IsUsed new k → IsUsed old k ⊎ Contains numbers (count + k)

-- each line names clauses of the store, of which there are so many, and lines before it alone
abbrev pub AllEarlier : ℕ → List Line → Type 0
AllEarlier count lines = (k : ℕ) (line : Line) → slice_get lines k ≡ Some line → All (λ n. n < count + k) (numbers_of line)

-- some later line that is used names this one
pub record IsWanted (count : ℕ) (lines : List Line) (used : List Bool) (place : ℕ) : Type 0 where
  pub later : ℕ
  pub line : Line
  pub at : slice_get lines later ≡ Some line
  pub after : place < later
  pub is_used : IsUsed used later
  pub named : Contains (numbers_of line) (count + place)

-- the last line is used, with it all lines that a used one names, and no others
pub record AreUsed (count : ℕ) (lines : List Line) (used : List Bool) : Type 0 where
  pub len : length used ≡ length lines
  pub last : (k : ℕ) → k + 1 ≡ length lines → IsUsed used k
  pub closed : (k j : ℕ) (line : Line) → slice_get lines k ≡ Some line → IsUsed used k →
      Contains (numbers_of line) (count + j) → IsUsed used j
  pub needed : (k : ℕ) → IsUsed used k → (k + 1 ≡ length lines) ⊎ IsWanted count lines used k

-- no line is moved up
abbrev pub AllDown : List ℕ → Type 0
AllDown places = (k : ℕ) → slice_index places k ≤ k
