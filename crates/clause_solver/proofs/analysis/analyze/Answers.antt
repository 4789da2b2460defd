use Rattle.std.proofs.Common.{◌≡◌, ◌<◌, ◌≤◌, ◌-◌, ◌+◌, subst, arith}
use Rattle.clause_store.specs.Derivations.{clauses_of}
use Rattle.clause_solver.specs.Analysis.{IsChained, least_of}
use Rattle.clause_solver.proofs.AnalysisFacts.{chained_top, analyzed_is}
use Rattle.clause_solver.proofs.analysis.analyze.Goals as goal

pub overflow_sub-top : goal.overflow_sub-top
overflow_sub-top c =
    let more : least_of c.args.trail.now < c.cutting.count = omega (arith, c.least_marks-least.ensures) in
    omega (arith, chained_top _ _ _ _ _ c.cutting.top _ c.cutting.invariant.chained more)

pub step_back-requires-clause-chained : goal.step_back-requires-clause-chained
step_back-requires-clause-chained c =
    let more : least_of c.args.trail.now < c.cutting.count = omega (arith, c.least_marks-least.ensures) in
    let top = chained_top _ _ _ _ _ c.cutting.top _ c.cutting.invariant.chained more in
    let same : c.cutting.top ≡ c.cutting.top - 1 + 1 = omega (arith, top) in
    subst (λ t. IsChained (clauses_of c.args.store.now c.args.lines.now) c.args.trail.now c.cutting.chain.first c.cutting.chain.cuts c.cutting.marks t c.cutting.count) same c.cutting.invariant.chained

pub cutting-smaller : goal.cutting-smaller
cutting-smaller c =
    let more : least_of c.args.trail.now < c.cutting.count = omega (arith, c.least_marks-least.ensures) in
    omega (arith, chained_top _ _ _ _ _ c.cutting.top _ c.cutting.invariant.chained more)

pub returns-clause-analyzed : goal.returns-clause-analyzed
returns-clause-analyzed c =
    let few : c.cutting.count ≤ least_of c.args.trail.now = omega (arith, c.least_marks-least.ensures) in
    analyzed_is _ _ _ _ _ c.cutting.top _ _ c.requires.explained c.cutting.invariant.chained few c.in_ok-clause.ensures.range c.in_ok-clause.ensures.signs
