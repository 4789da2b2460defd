use Rattle.std.proofs.Common.{take}
use Rattle.clause_solver.proofs.StandingFacts.{IsJudged}
use Rattle.clause_solver.proofs.standing.judged.Given as goal

abbrev pub invariant-judging : goal.invariant-judging
invariant-judging l = IsJudged l.trail.lits (take l.lit-index l.clause) l.found
