use Rattle.model_laws.proofs.Noded.{unrolled_law}
use Rattle.model_laws.proofs.unrolled_law.Goals as goal

pub returns : goal.returns
returns c = unrolled_law
