use Rattle.model_laws.proofs.Selected.{nodes_law}
use Rattle.model_laws.proofs.nodes_law.Goals as goal

pub returns : goal.returns
returns c = nodes_law
