use Rattle.std.proofs.Common.{◌-◌}
use Rattle.calm_reach.specs.Walks.{IsPartWalk}
use Rattle.calm_reach.proofs.walk.walk.Given as goal

abbrev pub invariant-bits : goal.invariant-bits
invariant-bits l = IsPartWalk l.graph.flat l.row l.bit l.met l.looked

abbrev pub decreases-bits : goal.decreases-bits
decreases-bits l = l.graph.flat.bits - l.looked
