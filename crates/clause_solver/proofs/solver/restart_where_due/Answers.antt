use Rattle.clause_solver.proofs.TakenFacts.{left_zero, left_one}
use Rattle.clause_solver.proofs.solver.restart_where_due.Goals as goal

pub returns-then-not-is_due-clause-left : goal.returns-then-not-is_due-clause-left
returns-then-not-is_due-clause-left g c = left_zero c.args.others.now.items _ _ c.if-not-is_due.ensures.restarts

pub returns-clause-left : goal.returns-clause-left
returns-clause-left g c = left_one c.args.others.now.items _ _ _ c.if-not-is_due.ensures.restarts c.take_next.ensures
