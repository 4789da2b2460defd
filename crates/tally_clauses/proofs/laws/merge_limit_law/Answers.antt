use Rattle.tally_clauses.proofs.Summing.{merge_holds}
use Rattle.tally_clauses.proofs.laws.merge_limit_law.Goals as goal

pub returns : goal.returns
returns c = merge_holds
