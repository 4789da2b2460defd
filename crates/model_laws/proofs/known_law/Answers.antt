use Rattle.model_laws.proofs.Knowing.{known_law}
use Rattle.model_laws.proofs.known_law.Goals as goal

pub returns : goal.returns
returns c = known_law
