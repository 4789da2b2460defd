-- Derivations without the lines that their last line does not rest on.
use Rattle.std.specs.Prelude.{◌≡◌, ℕ, ◌+◌, ◌-◌, ◌<◌, if◌then◌else◌, nat_lt, List, [], ◌∷◌, ◌++◌, Some, length, slice_get, slice_index, map, AllPairs, Contains}
use Rattle.clause_store.specs.declared.lit.Lit.{Lit}
use Rattle.clause_store.specs.declared.line.Cut.{Cut}
use Rattle.clause_store.specs.declared.line.Line.{Line}

-- the numbers of the clauses that a line names: its first one, and one for each cut
abbrev pub numbers_of : Line → List ℕ
numbers_of line = line.first ∷ map (λ cut. cut.id) line.cuts

-- a number where each line is moved to its place in the list; the clauses of the store, of which there are so many,
-- keep theirs
abbrev pub moved_number : ℕ → List ℕ → ℕ → ℕ
moved_number count places number = if nat_lt number count then number else (count + slice_index places (number - count))

abbrev pub moved_cut : (ℕ → ℕ) → Cut → Cut
moved_cut move cut = record { var = cut.var; id = move cut.id }

-- a line with the numbers that it names changed, and nothing else
abbrev pub moved_line : (ℕ → ℕ) → Line → Line
moved_line move line = record { clause = line.clause; first = move line.first; cuts = map (moved_cut move) line.cuts }

-- some lines in their order, with the numbers closed up: moved back to the places where they stood, they are the lines
-- that stood there
pub record IsPicked (count : ℕ) (lines picked : List Line) : Type 0 where
  pub places : List ℕ
  pub len : length places ≡ length picked
  pub ascending : AllPairs (λ p q. p < q) places
  pub stood : (k : ℕ) (line : Line) → slice_get picked k ≡ Some line →
      slice_get lines (slice_index places k) ≡ Some (moved_line (moved_number count places) line)

-- a later line names this one
pub record IsNamedLater (count : ℕ) (lines : List Line) (place : ℕ) : Type 0 where
  pub later : ℕ
  pub line : Line
  pub at : slice_get lines later ≡ Some line
  pub after : place < later
  pub named : Contains (numbers_of line) (count + place)

-- every line but the last is named by a later one: so the last line rests on all of them
abbrev pub AllNamed : ℕ → List Line → Type 0
AllNamed count lines = (k : ℕ) → k + 1 < length lines → IsNamedLater count lines k

-- there is a last line, and it has this clause
pub record EndsIn (lines : List Line) (clause : List Lit) : Type 0 where
  pub before : List Line
  pub last : Line
  pub ends : lines ≡ before ++ last ∷ []
  pub clause_is : last.clause ≡ clause
