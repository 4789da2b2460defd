use Rattle.std.proofs.Common.{◌*◌, ap}
use Rattle.clause_solver.proofs.RestartFacts.{planned_first}
use Rattle.clause_solver.proofs.restarts.Plan.new.Goals as goal

pub returns-clause-planned : goal.returns-clause-planned
returns-clause-planned c = planned_first c.args.every _ (ap (λ n. c.args.every * n) c.luby.ensures.number)
