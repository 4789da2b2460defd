use Rattle.std.proofs.Common.{arith}
use Rattle.clause_solver.proofs.TrailFacts.{tabled_bound, tabled_coherent}
use Rattle.clause_solver.proofs.trail.Trail.len.Goals as goal

pub overflow_cast-result : goal.overflow_cast-result
overflow_cast-result c =
    let t = c.self.invariant in
    omega (arith, tabled_bound _ _ _ t.value t.place, c.self.inside.lits.ok.0)

pub returns-clause-coherent : goal.returns-clause-coherent
returns-clause-coherent c =
    rw (← c.self.view_is) (tabled_coherent _ _ _ _ _ _ c.self.invariant)
