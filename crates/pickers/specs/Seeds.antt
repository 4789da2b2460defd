-- A sequence of states from a seed, and the variable that a state stands for.
use Rattle.std.specs.Prelude.{◌≡◌, ℕ, ◌+◌, ◌*◌, ◌/◌, ◌%◌, ◌^◌, Bool, List, take, count_by}
use Rattle.pickers.specs.declared.seeded.TheConstants.{FACTOR, ADDEND}
use Rattle.pickers.specs.Choices.{IsOpen}

abbrev pub next_state : ℕ → ℕ
next_state x = (x * FACTOR + ADDEND) % 2 ^ 64

-- how many variables are unset
abbrev pub open_count_of : List Bool → ℕ
open_count_of unset = count_by (λ b. b) unset

-- the unset variable before which n are unset
pub record IsNth (unset : List Bool) (number var : ℕ) : Type 0 where
  pub is_open : IsOpen unset var
  pub before : open_count_of (take var unset) ≡ number

-- the upper half of the state, modulo the number of unset variables, tells which of these
abbrev pub IsSeeded : ℕ → List Bool → ℕ → Type 0
IsSeeded state unset var = IsNth unset (state / 2 ^ 32 % open_count_of unset) var
