-- the texts of the pins so far
use Rattle.std.proofs.Common.{◌≡◌, take, map}
use Rattle.circuit_rows.specs.Json.{pin_text}
use Rattle.circuit_rows.proofs.printing.add_pins.Given as goal

abbrev pub invariant-pins : goal.invariant-pins
invariant-pins l = l.texts ≡ map pin_text (take l.pin-index l.pins)
