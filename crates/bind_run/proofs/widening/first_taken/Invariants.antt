use Rattle.std.proofs.Common.{◌≡◌, length}
use Rattle.bind_run.specs.Widened.{first_taken}
use Rattle.bind_run.proofs.widening.first_taken.Given as goal

abbrev pub invariant-addresses : goal.invariant-addresses
invariant-addresses l = first_taken l.names l.rest ≡ first_taken l.names l.addresses

abbrev pub decreases-addresses : goal.decreases-addresses
decreases-addresses l = length l.rest
