-- the rows so far, with those of the lines that are left, are all
use Rattle.std.proofs.Common.{◌≡◌, ◌∷◌, [], drop}
use Rattle.circuit_rows.specs.Circuits.{clock_row, rows_after}
use Rattle.circuit_rows.specs.Words.{shown}
use Rattle.circuit_rows.proofs.circuit.rows.Given as goal

abbrev pub invariant-lines : goal.invariant-lines
invariant-lines l =
    rows_after l.bits l.rows.items l.number (shown (drop l.line-index l.lines))
    ≡ rows_after l.bits (clock_row ∷ []) 0 (shown l.lines)
