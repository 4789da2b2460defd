use Rattle.model_laws.proofs.Outcomes.{good_cycle_law}
use Rattle.model_laws.proofs.good_cycle_law.Goals as goal

pub returns : goal.returns
returns c = good_cycle_law
