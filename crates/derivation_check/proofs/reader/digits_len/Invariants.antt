use Rattle.std.proofs.Common.{ℕ, ◌<◌, ◌≤◌, get_or}
use Rattle.derivation_check.proofs.reader.digits_len.Given as goal

abbrev pub invariant-counting : goal.invariant-counting
invariant-counting l = (k : ℕ) → k < l.place → (48 ≤ get_or l.bytes k 0) × (get_or l.bytes k 0 ≤ 57)
