-- those so far, with those of the rest, are all
use Rattle.std.proofs.Common.{◌≡◌, ◌++◌, drop, option_map}
use Rattle.circuit_rows.specs.Circuits.{wire_of}
use Rattle.circuit_rows.specs.Words.{each_of, shown}
use Rattle.circuit_rows.proofs.circuit.wires.Given as goal

abbrev pub invariant-words : goal.invariant-words
invariant-words l =
    option_map (λ more. l.wires ++ more) (each_of (wire_of l.bits) (shown (drop l.word-index l.words)))
    ≡ each_of (wire_of l.bits) (shown l.words)
