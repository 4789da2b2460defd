use Rattle.circuit_clauses.proofs.Evaluating.{one_evaluation}
use Rattle.circuit_clauses.proofs.laws.evaluation_law.Goals as goal

pub returns : goal.returns
returns c = one_evaluation
