use Rattle.clause_solver.proofs.LubyFacts.{IsSought}
use Rattle.clause_solver.proofs.restarts.luby.Given as goal

abbrev pub invariant-halving : goal.invariant-halving
invariant-halving l = IsSought l.place l.power l.i

abbrev pub decreases-halving : goal.decreases-halving
decreases-halving l = l.power
