use Rattle.clause_solver.proofs.LineCount.{none_after_empty}
use Rattle.clause_solver.proofs.laws.none_after_empty.Goals as goal

pub returns : goal.returns
returns c = none_after_empty
