-- the number of the digits that are left, read on, is that of all
use Rattle.std.proofs.Common.{◌≡◌, drop}
use Rattle.circuit_rows.specs.Words.{number_from}
use Rattle.circuit_rows.proofs.bits.number.Given as goal

abbrev pub invariant-digits : goal.invariant-digits
invariant-digits l = number_from l.number (drop l.digit-index l.word) ≡ number_from 0 l.word
