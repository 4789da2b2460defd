-- How far back a jump goes.
use Rattle.std.specs.Prelude.{◌≡◌, ℕ, ◌+◌, ◌-◌, ◌<◌, ◌≤◌, Bool, true, ◌⊎◌, List, length, take, Option, None, Some, is_some, slice_get, slice_index}
use Rattle.clause_store.specs.declared.lit.Lit.{Lit}
use Rattle.clause_store.specs.Signs.{sign_of}
use Rattle.clause_solver.specs.Watches.{opposite_of}

-- a literal of the trail before the number of places has a variable of the clause, and is the last of these places
pub record EndsAt (lits clause : List Lit) (kept : ℕ) : Type 0 where
  pub place : ℕ
  pub is_last : kept ≡ place + 1
  pub lit : Lit
  pub at_place : slice_get lits place ≡ Some lit
  pub sign : Bool
  pub holds : sign_of clause lit.var ≡ Some sign

-- how many places a jump has to keep: none, or up to one that has a variable of the clause, and each variable of the
-- literals that were seen and set before the last decision is set there
pub record IsKept (lits clause seen : List Lit) (start kept : ℕ) : Type 0 where
  pub within : kept ≤ start
  pub ends : (kept ≡ 0) ⊎ EndsAt lits clause kept
  pub enough : (v : ℕ) → is_some (sign_of seen v) ≡ true → is_some (sign_of (take start lits) v) ≡ true
      → is_some (sign_of (take kept lits) v) ≡ true

-- a level below the last, whose own decision need not be kept: no level is below it or the one below it is kept
pub record IsKeptLevel (starts : List ℕ) (kept level : ℕ) : Type 0 where
  pub below_last : level < length starts
  pub keeps : (level ≡ 0) ⊎ (slice_index starts (level - 1) < kept)
  pub enough : kept ≤ slice_index starts level

-- the opposite of the last literal of those places, or none where there are none
abbrev pub IsLastOf : List Lit → ℕ → Option Lit → Type 0
IsLastOf lits kept None = kept ≡ 0
IsLastOf lits kept (Some l) = (m : Lit) × (0 < kept) × (slice_get lits (kept - 1) ≡ Some m) × (l ≡ opposite_of m)
