-- The laws of tallies, as facts that contracts name.
use Rattle.std.specs.Prelude.{ℕ, ◌+◌, ◌*◌, ◌≤◌, Bool, List, length, sum_by, All, ◌↔◌}
use Rattle.circuit_clauses.specs.declared.signal.Signal.{Signal}
use Rattle.circuit_clauses.specs.Meanings.{AreDefined, AllHold}
use Rattle.tally_clauses.specs.Tallies.{merge, tally_of}
use Rattle.tally_clauses.specs.Counts.{Tells, Count, IsCounted, tallies_of, potential}
use Rattle.circuit_clauses.specs.Steps.{clauses_of_steps, variables_after}

-- the sum of two tallies counts what both count
abbrev pub MergeLaw : Type 0
MergeLaw =
    (values : ℕ → Bool) (limit var : ℕ) (ones others : List Signal) (m n s t : ℕ)
    → Tells limit values ones m s → Tells limit values others n t
    → AreDefined values var (merge limit var ones others).steps
    → Tells limit values (merge limit var ones others).tally (m + n) (s + t)

-- the steps of a sum of two tallies hold exactly where its gates do and the limit is not passed
abbrev pub MergeLimitLaw : Type 0
MergeLimitLaw =
    (values : ℕ → Bool) (limit var : ℕ) (ones others : List Signal) (m n s t : ℕ)
    → Tells limit values ones m s → Tells limit values others n t → m ≤ limit → n ≤ limit
    → AreDefined values var (merge limit var ones others).steps
    → AllHold values var (merge limit var ones others).steps ↔ (m + n ≤ limit)

-- the sum of a list of tallies counts what all count
abbrev pub TallyLaw : Type 0
TallyLaw =
    (values : ℕ → Bool) (limit var : ℕ) (counts : List Count) → All (IsCounted limit values) counts
    → AreDefined values var (tally_of limit var (tallies_of counts)).steps
    → Tells limit values (tally_of limit var (tallies_of counts)).tally
    (sum_by (λ (c : Count). c.trues) counts) (sum_by (λ (c : Count). c.signals) counts)

-- the steps of a sum of tallies hold exactly where its gates do and the limit is not passed
abbrev pub LimitLaw : Type 0
LimitLaw =
    (values : ℕ → Bool) (limit var : ℕ) (counts : List Count) → All (IsCounted limit values) counts
    → All (λ (c : Count). c.trues ≤ limit) counts → AreDefined values var (tally_of limit var (tallies_of counts)).steps
    → AllHold values var (tally_of limit var (tallies_of counts)).steps
    ↔ (sum_by (λ (c : Count). c.trues) counts ≤ limit)

-- a sum of tallies takes at most as many variables as its parts are worth more than it, and at most 4 times so many
-- clauses. A single signal is worth 3 * limit - 1
abbrev pub SizeLaw : Type 0
SizeLaw =
    (limit var : ℕ) (parts : List (List Signal)) → All (λ (part : List Signal). length part ≤ limit) parts
    → (variables_after var (tally_of limit var parts).steps + potential limit (tally_of limit var parts).tally
    ≤ var + sum_by (potential limit) parts)
    × (length (clauses_of_steps var (tally_of limit var parts).steps) + 4 * potential limit (tally_of limit var parts).tally
    ≤ 4 * sum_by (potential limit) parts)
