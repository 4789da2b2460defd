use Rattle.std.proofs.Common.{◌≡◌, length}
use Rattle.stable_sets.proofs.tests.cases.parts.Given as goal

abbrev pub invariant-bits : goal.invariant-bits
invariant-bits l = length l.parts.items ≡ l.bit
