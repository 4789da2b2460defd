use Rattle.std.proofs.Common.{length}
use Rattle.stable_sets.proofs.sets.+chosen_set.Given as goal

abbrev pub decreases-chosen_set : goal.decreases-chosen_set
decreases-chosen_set l = length l.operands.now
