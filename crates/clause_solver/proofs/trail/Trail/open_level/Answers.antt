use Rattle.std.proofs.Common.{arith}
use Rattle.clause_solver.proofs.TrailFacts.{tabled_bound}
use Rattle.clause_solver.proofs.trail.Trail.open_level.Goals as goal

pub overflow_cast-place : goal.overflow_cast-place
overflow_cast-place c =
    let t = c.self.invariant in
    omega (arith, tabled_bound _ _ _ t.value t.place, c.self.inside.lits.ok.0)
