use Rattle.std.proofs.Common.{◌≡◌, take}
use Rattle.node_clauses.specs.Chosen.{chosen_numbers}
use Rattle.probe_encode.specs.Readable.{values_of}
use Rattle.probe_encode.proofs.finding.chosen_numbers.Given as goal

abbrev pub invariant-nodes : goal.invariant-nodes
invariant-nodes l = l.numbers ≡ chosen_numbers (values_of l.model) (take l.selected-index l.selections)
