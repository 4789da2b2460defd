use Rattle.model_laws.proofs.Rooted.{root_law}
use Rattle.model_laws.proofs.root_law.Goals as goal

pub returns : goal.returns
returns c = root_law
