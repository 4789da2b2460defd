use Rattle.model_laws.proofs.Needed.{matters_law}
use Rattle.model_laws.proofs.matters_law.Goals as goal

pub returns : goal.returns
returns c = matters_law
