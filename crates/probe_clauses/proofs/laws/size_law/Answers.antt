use Rattle.probe_clauses.proofs.Sized.{within}
use Rattle.probe_clauses.proofs.laws.size_law.Goals as goal

pub returns : goal.returns
returns c = within
