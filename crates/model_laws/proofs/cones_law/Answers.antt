use Rattle.model_laws.proofs.Coned.{cones_law}
use Rattle.model_laws.proofs.cones_law.Goals as goal

pub returns : goal.returns
returns c = cones_law
