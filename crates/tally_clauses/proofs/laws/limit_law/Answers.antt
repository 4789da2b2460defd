use Rattle.tally_clauses.proofs.Trees.{tally_limits}
use Rattle.tally_clauses.proofs.laws.limit_law.Goals as goal

pub returns : goal.returns
returns c = tally_limits c.gates_law.ensures
