use Rattle.tally_clauses.proofs.Trees.{tally_tells}
use Rattle.tally_clauses.proofs.laws.tally_law.Goals as goal

pub returns : goal.returns
returns c = tally_tells c.gates_law.ensures
