use Rattle.std.proofs.Common.{◌≤◌, ◌-◌, length}
use Rattle.clause_solver.proofs.propagate.place_of.Given as goal

abbrev pub invariant-halving : goal.invariant-halving
invariant-halving l = record { low : l.low ≤ l.high; high : l.high ≤ length l.clause }

abbrev pub decreases-halving : goal.decreases-halving
decreases-halving l = l.high - l.low
