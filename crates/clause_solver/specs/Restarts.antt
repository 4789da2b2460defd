-- When a search with a list of pickers begins anew.
use Rattle.std.specs.Prelude.{◌≡◌, ℕ, suc, zero, ◌+◌, ◌-◌, ◌*◌, ◌<◌, ◌≤◌, ◌^◌, List, length, take, if◌then◌else◌, ◌==◌, nat_lt}
use Rattle.clause_solver.specs.declared.outcome.Outcome.{Outcome}
use Rattle.clause_solver.specs.declared.outcome.Outcome.TheVariants.{Satisfied, Derived, Spent}

-- the number at place i of the Luby sequence, for i from 1 and below 2 to the given power: where i is 2^(k+1) - 1 it is
-- 2^k, and else, for the k with 2^k <= i < 2^(k+1) - 1, that at place i - 2^k + 1
unfoldable pub luby_below : ℕ → ℕ → ℕ
luby_below zero i = 1
luby_below (suc k) i = (if i == 2 ^ suc k - 1 then 2 ^ k else luby_below k (if nat_lt i (2 ^ k) then i else i - 2 ^ k + 1))

abbrev pub luby_of : ℕ → ℕ
luby_of i = luby_below i i

-- before the line after this many a search begins anew for the j-th time
unfoldable pub restart_at : ℕ → ℕ → ℕ
restart_at every zero = 0
restart_at every (suc j) = restart_at every j + every * luby_of (suc j)

-- how many of the first m restarts come before line n
unfoldable pub restarts_among : ℕ → ℕ → ℕ → ℕ
restarts_among every n zero = 0
restarts_among every n (suc m) = restarts_among every n m + (if nat_lt (restart_at every (suc m)) n then 1 else 0)

-- how often a search of n lines began anew: the restart of number j comes after j lines at least
abbrev pub restarts_of : ℕ → ℕ → ℕ
restarts_of every n = restarts_among every n n

-- the list without so many of its last items, or empty where it has fewer
abbrev pub AreLeft : {X : Type 0} → List X → ℕ → List X → Type 0
AreLeft old taken new = new ≡ take (length old - taken) old

-- a search took its first picker and one at each restart, as long as there were some
abbrev pub TakesPickers : ℕ → ℕ → ℕ → Outcome → Type 0
TakesPickers every before after (Satisfied values) = after < before
TakesPickers every before after (Derived d) = after ≡ before - (1 + restarts_of every (length d.lines))
TakesPickers every before after (Spent d) = after ≡ before - (1 + restarts_of every (length d.lines))

-- of some other pickers it took one at each restart, as long as there were some
abbrev pub TakesOthers : ℕ → ℕ → ℕ → Outcome → Type 0
TakesOthers every before after (Satisfied values) = after ≤ before
TakesOthers every before after (Derived d) = after ≡ before - restarts_of every (length d.lines)
TakesOthers every before after (Spent d) = after ≡ before - restarts_of every (length d.lines)

-- what a search keeps of its restarts: how many there were, and the number of lines at which the next one comes
pub record IsPlanned (every restarts next count : ℕ) : Type 0 where
  pub next_is : next ≡ restart_at every (suc restarts)
  pub began : count ≡ 0 → restarts ≡ 0
  pub passed : 0 < count → restart_at every restarts < count
  pub due : count ≤ next

-- the same, where the restart that was due has been made
pub record IsCurrent (every restarts next count : ℕ) : Type 0 where
  pub next_is : next ≡ restart_at every (suc restarts)
  pub passed : restart_at every restarts ≤ count
  pub ahead : count < next
