-- What tallies say.
use Rattle.std.specs.Prelude.{◌≡◌, ℕ, ◌-◌, ◌*◌, ◌<◌, ◌≤◌, min, nat_lt, Bool, List, length, get_or, map}
use Rattle.circuit_clauses.specs.declared.signal.Signal.{Signal}
use Rattle.circuit_clauses.specs.Signals.{value}

-- a tally counts signals of which so many are true, up to a limit: it has a place for each count from 1 to the limit, or
-- to their number, and each place tells whether at least so many are true
pub record Tells (limit : ℕ) (values : ℕ → Bool) (tally : List Signal) (trues signals : ℕ) : Type 0 where
  pub places : length tally ≡ min limit signals
  pub most : trues ≤ signals
  pub each : (k : ℕ) (d : Signal) → k < length tally → value values (get_or tally k d) ≡ nat_lt k trues

-- a tally with how many signals it counts, and how many of these are true
pub record Count : Type 0 where
  pub tally : List Signal
  pub trues : ℕ
  pub signals : ℕ

-- a tally counts so many
abbrev pub IsCounted : ℕ → (ℕ → Bool) → Count → Type 0
IsCounted limit values count = Tells limit values count.tally count.trues count.signals

abbrev pub tallies_of : List Count → List (List Signal)
tallies_of counts = map (λ (c : Count). c.tally) counts

-- what a tally is worth to a tree over it: the tree takes no more variables than its parts are worth more than its top
abbrev pub potential : ℕ → List Signal → ℕ
potential limit tally = length tally * (3 * limit - length tally)
