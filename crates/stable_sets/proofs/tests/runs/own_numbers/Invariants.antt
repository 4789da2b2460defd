use Rattle.std.proofs.Common.{◌≡◌, ℕ, ◌<◌, length, get_or}
use Rattle.stable_sets.proofs.tests.runs.own_numbers.Given as goal

abbrev pub invariant-bits : goal.invariant-bits
invariant-bits l = record {
  as_long : length l.ranks ≡ l.bit;
  each : (b : ℕ) → b < l.bit → get_or l.ranks b 0 ≡ b;
}
