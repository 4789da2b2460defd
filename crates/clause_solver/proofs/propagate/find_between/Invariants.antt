use Rattle.clause_solver.specs.Visits.{AreFalseBetween}
use Rattle.clause_solver.proofs.propagate.find_between.Given as goal

abbrev pub invariant-finding : goal.invariant-finding
invariant-finding l = AreFalseBetween l.trail.lits l.clause l.besides.var l.low l.place
