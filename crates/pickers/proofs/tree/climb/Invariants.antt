use Rattle.std.proofs.Common.{◌<◌, length}
use Rattle.std.specs.List.{All}
use Rattle.pickers.specs.Tree.{AreLedBut}
use Rattle.pickers.proofs.tree.climb.Given as goal

abbrev pub invariant-climbing : goal.invariant-climbing
invariant-climbing l = record {
  node : l.node < length l.numbers;
  range : All (λ v. v < length l.leaders) l.leaders;
  led : AreLedBut l.numbers l.leaders l.node;
}

abbrev pub decreases-climbing : goal.decreases-climbing
decreases-climbing l = l.node
