-- the texts of the wires so far
use Rattle.std.proofs.Common.{◌≡◌, take, map}
use Rattle.circuit_rows.specs.Json.{wire_text}
use Rattle.circuit_rows.proofs.printing.add_wires.Given as goal

abbrev pub invariant-wires : goal.invariant-wires
invariant-wires l = l.texts ≡ map wire_text (take l.wire-index l.wires)
