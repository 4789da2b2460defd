-- no pin so far is of the port
use Rattle.std.proofs.Common.{◌≡◌, drop}
use Rattle.circuit_rows.specs.Flats.{pin_wire}
use Rattle.circuit_rows.proofs.flat.pin_wire.Given as goal

abbrev pub invariant-pins : goal.invariant-pins
invariant-pins l = pin_wire (drop l.pin-index l.pins) l.port ≡ pin_wire l.pins l.port
