use Rattle.std.proofs.Common.{◌≡◌}
use Rattle.std.specs.List.{filter, range_with_len}
use Rattle.node_clauses.specs.Choices.{is_choice}
use Rattle.node_clauses.proofs.choices.choices.Given as goal

abbrev pub invariant-numbers : goal.invariant-numbers
invariant-numbers l = l.numbers.items ≡ filter (is_choice l.kind l.parts) (range_with_len 0 l.number)
