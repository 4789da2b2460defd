-- Counts of faults: a fault that a call answers is one that its shelf or sink has counted.
use Rattle.std.specs.Prelude.{ℕ, ◌+◌, ◌-◌, ◌^◌, ◌≤◌, min, OnErr}
use Rattle.std.specs.declared.result.Result.{Result}

-- the last value of a count of faults, at which it stays
abbrev pub last_count : ℕ
last_count = 2 ^ 64 - 1

-- the count one higher, or at its last value
abbrev pub next_count : ℕ → ℕ
next_count before = min (before + 1) last_count

-- the count rose, or stands at its last value
abbrev pub Rose : ℕ → ℕ → Type 0
Rose before now = next_count before ≤ now

-- the count did not fall, and a failed call raised it
pub record HasCause {T E : Type 0} (before now : ℕ) (result : Result T E) : Type 0 where
  pub later : before ≤ now
  pub failed : OnErr result (Rose before now)
