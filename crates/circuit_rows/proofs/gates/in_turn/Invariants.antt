-- the pairs so far, with those of the words that are left, are all
use Rattle.std.proofs.Common.{◌≡◌, ◌++◌, length, option_map}
use Rattle.circuit_rows.specs.Gates.{in_turn, shown_pairs}
use Rattle.circuit_rows.specs.Words.{shown}
use Rattle.circuit_rows.proofs.gates.in_turn.Given as goal

abbrev pub invariant-ports : goal.invariant-ports
invariant-ports l =
    option_map (λ more. shown_pairs l.pairs.items ++ more) (in_turn (shown l.words))
    ≡ in_turn (shown l.fn.words)

abbrev pub decreases-ports : goal.decreases-ports
decreases-ports l = length l.words
