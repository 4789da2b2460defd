use Rattle.std.proofs.Common.{ℕ, ◌<◌}
use Rattle.coco_base.specs.LabelSets.{has}
use Rattle.stable_sets.specs.Shares.{AreBitAlike}
use Rattle.stable_sets.proofs.whole.is_alike.Given as goal

abbrev pub invariant-bits : goal.invariant-bits
invariant-bits l = (k : ℕ) → k < l.bit → AreBitAlike l.secret (has l.set) k
