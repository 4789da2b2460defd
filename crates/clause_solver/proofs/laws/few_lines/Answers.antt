use Rattle.clause_solver.proofs.LineCount.{few_lines}
use Rattle.clause_solver.proofs.laws.few_lines.Goals as goal

pub returns : goal.returns
returns c = few_lines
