use Rattle.std.proofs.Common.{◌≡◌, ◌++◌, length}
use Rattle.bind_run.specs.Widened.{leaf_addresses}
use Rattle.bind_run.proofs.widening.leaf_addresses.Given as goal

abbrev pub invariant-lines : goal.invariant-lines
invariant-lines l = l.addresses.items ++ leaf_addresses l.rest ≡ leaf_addresses l.lines

abbrev pub decreases-lines : goal.decreases-lines
decreases-lines l = length l.rest
