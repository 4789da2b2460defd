use Rattle.model_laws.proofs.Calms.{calm_law}
use Rattle.model_laws.proofs.calm_law.Goals as goal

pub returns : goal.returns
returns c = calm_law
