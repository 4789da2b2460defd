use Rattle.std.proofs.Common.{◌≡◌, []}
use Rattle.std.proofs.Math.ListN.{replicate}
use Rattle.clause_solver.proofs.watches.Watches.new.Given as goal

abbrev pub invariant-making : goal.invariant-making
invariant-making l = l.lists.items ≡ replicate l.counter []
