use Rattle.std.proofs.Common.{◌≡◌}
use Rattle.calm_reach.proofs.walk.listed.Given as goal

abbrev pub invariant-leaves : goal.invariant-leaves
invariant-leaves l = l.list ≡ l.yielded
