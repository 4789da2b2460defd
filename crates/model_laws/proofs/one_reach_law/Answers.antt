use Rattle.model_laws.proofs.Reached.{one_reach_law}
use Rattle.model_laws.proofs.one_reach_law.Goals as goal

pub returns : goal.returns
returns c = one_reach_law
