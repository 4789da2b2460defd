use Rattle.model_laws.proofs.Knowing.{requests_law}
use Rattle.model_laws.proofs.requests_law.Goals as goal

pub returns : goal.returns
returns c = requests_law
