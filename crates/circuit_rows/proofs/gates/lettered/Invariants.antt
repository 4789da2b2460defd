-- the pairs so far, with those of the letters that are left, are all
use Rattle.std.proofs.Common.{◌≡◌, ◌++◌, length, option_map}
use Rattle.circuit_rows.specs.Gates.{lettered, shown_pairs}
use Rattle.circuit_rows.specs.Words.{shown}
use Rattle.circuit_rows.proofs.gates.lettered.Given as goal

abbrev pub invariant-letters : goal.invariant-letters
invariant-letters l =
    option_map (λ more. shown_pairs l.pairs.items ++ more) (lettered l.letters (shown l.words))
    ≡ lettered l.fn.letters (shown l.fn.words)

abbrev pub decreases-letters : goal.decreases-letters
decreases-letters l = length l.letters
