use Rattle.std.proofs.Common.{◌-◌, length}
use Rattle.calm_reach.proofs.WalkLemmas.{IsPartLeaves}
use Rattle.calm_reach.proofs.walk.leaves_among.Given as goal

abbrev pub invariant-bits : goal.invariant-bits
invariant-bits l = IsPartLeaves l.graph.flat l.row l.bits l.place l.leaves.keys

abbrev pub decreases-bits : goal.decreases-bits
decreases-bits l = length l.bits - l.place
