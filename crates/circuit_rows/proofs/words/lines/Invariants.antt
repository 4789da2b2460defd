-- the lines so far, and those of the rest, are the lines of all
use Rattle.std.proofs.Common.{◌≡◌, ◌++◌, length}
use Rattle.circuit_rows.specs.Words.{lines_of, shown}
use Rattle.circuit_rows.proofs.words.lines.Given as goal

abbrev pub invariant-lines : goal.invariant-lines
invariant-lines l = shown l.lines.items ++ lines_of l.rest ≡ lines_of l.fn.text

abbrev pub decreases-lines : goal.decreases-lines
decreases-lines l = length l.rest
