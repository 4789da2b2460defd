-- the bits so far, with those of the lines that are left, are all
use Rattle.std.proofs.Common.{◌≡◌, drop}
use Rattle.circuit_rows.specs.Circuits.{bits_after, bits_of}
use Rattle.circuit_rows.specs.Words.{shown}
use Rattle.circuit_rows.proofs.bits.bits.Given as goal

abbrev pub invariant-lines : goal.invariant-lines
invariant-lines l = bits_after l.bits l.number (shown (drop l.line-index l.lines)) ≡ bits_of (shown l.lines)
