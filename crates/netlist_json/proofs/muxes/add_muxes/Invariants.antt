-- the multiplexers so far, and those of the steps that are left, are the multiplexers of all
use Rattle.std.proofs.Common.{◌≡◌, ◌+◌, ◌++◌, length}
use Rattle.netlist_json.specs.Flats.{muxes_of}
use Rattle.netlist_json.proofs.muxes.add_muxes.Given as goal

abbrev pub invariant-steps : goal.invariant-steps
invariant-steps l = record {
  bits : l.next + length l.left ≡ l.initial.next + length l.initial.left;
  muxes : l.all.items ++ muxes_of l.flop l.left l.inner l.next ≡ l.initial.all.items ++ muxes_of l.flop l.initial.left l.initial.inner l.initial.next;
}

abbrev pub decreases-steps : goal.decreases-steps
decreases-steps l = length l.left
