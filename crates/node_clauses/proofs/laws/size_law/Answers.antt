use Rattle.node_clauses.proofs.SizeLemmas.{size}
use Rattle.node_clauses.proofs.laws.size_law.Goals as goal

pub returns : goal.returns
returns c = size
