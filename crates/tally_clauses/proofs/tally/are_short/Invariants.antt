use Rattle.std.proofs.Common.{ℕ, ◌<◌, ◌≤◌, List, length, get_or}
use Rattle.circuit_clauses.specs.declared.signal.Signal.{Signal}
use Rattle.tally_clauses.proofs.tally.are_short.Given as goal

abbrev pub invariant-measuring : goal.invariant-measuring
invariant-measuring l =
    (k : ℕ) (d : List Signal) → k < l.part-index → length (get_or l.parts k d) ≤ l.limit
