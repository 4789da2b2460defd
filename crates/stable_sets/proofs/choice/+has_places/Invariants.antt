use Rattle.std.proofs.Common.{length}
use Rattle.stable_sets.proofs.choice.+has_places.Given as goal

abbrev pub decreases-has_places : goal.decreases-has_places
decreases-has_places l = length l.parts.now
