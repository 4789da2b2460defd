use Rattle.std.proofs.Common.{take}
use Rattle.clause_solver.specs.Jumps.{IsKept}
use Rattle.clause_solver.proofs.jump.kept_places.Given as goal

abbrev pub invariant-keeping : goal.invariant-keeping
invariant-keeping l = IsKept l.trail.lits l.clause (take l.lit-index l.clause) l.start l.kept
