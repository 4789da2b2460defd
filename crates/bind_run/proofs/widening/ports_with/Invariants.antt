use Rattle.std.proofs.Common.{◌≡◌, ◌+◌, ◌*◌, length}
use Rattle.bind_run.specs.Widened.{bits_with, leaf_bits, with_leaves}
use Rattle.bind_run.proofs.widening.ports_with.Given as goal

abbrev pub invariant-addresses : goal.invariant-addresses
invariant-addresses l = record {
  ports : with_leaves l.bits l.ports.items l.rest ≡ with_leaves l.flat.bits l.flat.ports l.addresses;
  bits : l.bits + leaf_bits * length l.rest ≡ bits_with l.flat l.addresses;
}

abbrev pub decreases-addresses : goal.decreases-addresses
decreases-addresses l = length l.rest
