use Rattle.circuit_clauses.proofs.Gating.{steps_met}
use Rattle.circuit_clauses.proofs.laws.clauses_law.Goals as goal

pub returns : goal.returns
returns c = steps_met
