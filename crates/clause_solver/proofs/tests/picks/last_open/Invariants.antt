use Rattle.std.proofs.Common.{◌≡◌, ℕ, ◌<◌, ◌≤◌, length, get_or, false}
use Rattle.clause_solver.proofs.tests.picks.last_open.Given as goal

abbrev pub invariant-seeking : goal.invariant-seeking
invariant-seeking l = (k : ℕ) → l.var ≤ k → k < length l.unset → get_or l.unset k false ≡ false
