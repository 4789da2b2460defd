-- the steps that are left, from this wire and bit on, lead where all lead
use Rattle.std.proofs.Common.{◌≡◌, ◌+◌, length}
use Rattle.netlist_json.specs.Flats.{outer_wire}
use Rattle.netlist_json.proofs.muxes.outer_wire.Given as goal

abbrev pub invariant-steps : goal.invariant-steps
invariant-steps l = record {
  bits : l.next + length l.left ≡ l.initial.next + length l.initial.left;
  wire : outer_wire l.left l.wire l.next ≡ outer_wire l.initial.left l.initial.wire l.initial.next;
}

abbrev pub decreases-steps : goal.decreases-steps
decreases-steps l = length l.left
