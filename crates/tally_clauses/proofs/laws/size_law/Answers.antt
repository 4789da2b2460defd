use Rattle.tally_clauses.proofs.Charges.{tally_size}
use Rattle.tally_clauses.proofs.laws.size_law.Goals as goal

pub returns : goal.returns
returns c = tally_size
