use Rattle.clause_solver.proofs.MarkFacts.{IsCollected}
use Rattle.clause_solver.proofs.marks.collect.Given as goal

abbrev pub invariant-collecting : goal.invariant-collecting
invariant-collecting l = IsCollected l.trail.lits l.initial.marks l.var l.clause l.marks
