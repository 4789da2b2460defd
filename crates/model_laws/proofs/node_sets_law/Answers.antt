use Rattle.model_laws.proofs.Selected.{node_sets_law}
use Rattle.model_laws.proofs.node_sets_law.Goals as goal

pub returns : goal.returns
returns c = node_sets_law
