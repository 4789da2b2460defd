use Rattle.circuit_clauses.proofs.Sizes.{variables_within, clauses_within}
use Rattle.circuit_clauses.proofs.laws.size_law.Goals as goal

pub returns : goal.returns
returns c = λ var steps. (variables_within var steps, clauses_within var steps)
