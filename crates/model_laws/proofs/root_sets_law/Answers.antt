use Rattle.model_laws.proofs.Selected.{root_sets_law}
use Rattle.model_laws.proofs.root_sets_law.Goals as goal

pub returns : goal.returns
returns c = root_sets_law
