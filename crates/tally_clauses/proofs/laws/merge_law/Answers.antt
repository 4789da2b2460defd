use Rattle.tally_clauses.proofs.Summing.{merge_says}
use Rattle.tally_clauses.proofs.laws.merge_law.Goals as goal

pub returns : goal.returns
returns c = merge_says c.gates_law.ensures
