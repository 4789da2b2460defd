-- those so far, with those of the rest, are all
use Rattle.std.proofs.Common.{◌≡◌, ◌++◌, drop, option_map}
use Rattle.circuit_rows.specs.Circuits.{wire_of}
use Rattle.circuit_rows.specs.Words.{each_of}
use Rattle.circuit_rows.proofs.circuit.bit_wires.Given as goal

abbrev pub invariant-names : goal.invariant-names
invariant-names l =
    option_map (λ more. l.wires ++ more) (each_of (wire_of l.bits) (drop l.name-index l.names))
    ≡ each_of (wire_of l.bits) l.names
