use Rattle.model_laws.proofs.Covers.{one_cycle_law}
use Rattle.model_laws.proofs.one_cycle_law.Goals as goal

pub returns : goal.returns
returns c = one_cycle_law
