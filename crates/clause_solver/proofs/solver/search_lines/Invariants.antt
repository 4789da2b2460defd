use Rattle.std.proofs.Common.{◌≡◌, length}
use Rattle.clause_solver.specs.Restarts.{AreLeft, IsPlanned}
use Rattle.clause_solver.specs.Turns.{IsGoing}
use Rattle.clause_solver.proofs.solver.search_lines.Given as goal

abbrev pub invariant-stepping : goal.invariant-stepping
invariant-stepping g l = record {
  going : IsGoing l.store l.state;
  count : length l.state.lines ≡ l.count;
  vars : l.state.trail.vars ≡ l.vars;
  every : l.plan.every ≡ l.every;
  planned : IsPlanned l.every l.plan.restarts l.plan.next l.count;
  others : AreLeft l.initial.others.items l.plan.restarts l.others.items;
}
