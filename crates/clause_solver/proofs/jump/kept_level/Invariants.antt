use Rattle.std.proofs.Common.{◌<◌, ◌≤◌, length}
use Rattle.std.specs.Prelude.{slice_index}
use Rattle.clause_solver.proofs.jump.kept_level.Given as goal

abbrev pub invariant-lowering : goal.invariant-lowering
invariant-lowering l = record {
  below_last : l.level < length l.trail.starts;
  enough : l.kept ≤ slice_index l.trail.starts l.level;
}

abbrev pub decreases-lowering : goal.decreases-lowering
decreases-lowering l = l.level
