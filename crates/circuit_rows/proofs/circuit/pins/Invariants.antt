-- those so far, with those of the rest, are all
use Rattle.std.proofs.Common.{◌≡◌, ◌++◌, drop, option_map}
use Rattle.circuit_rows.specs.Circuits.{pin_of}
use Rattle.circuit_rows.specs.Gates.{shown_pairs}
use Rattle.circuit_rows.specs.Words.{each_of}
use Rattle.circuit_rows.proofs.circuit.pins.Given as goal

abbrev pub invariant-pairs : goal.invariant-pairs
invariant-pairs l =
    option_map (λ more. l.pins ++ more) (each_of (pin_of l.bits) (shown_pairs (drop l.pair-index l.pairs)))
    ≡ each_of (pin_of l.bits) (shown_pairs l.pairs)
