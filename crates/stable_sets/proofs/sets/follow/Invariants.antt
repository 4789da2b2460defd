use Rattle.stable_sets.specs.Chosen.{AreFollowedTo}
use Rattle.stable_sets.proofs.sets.follow.Given as goal

abbrev pub invariant-nodes : goal.invariant-nodes
invariant-nodes l = AreFollowedTo l.unrolled.nodes l.selection.choices l.place l.sets
