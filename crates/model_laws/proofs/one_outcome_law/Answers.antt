use Rattle.model_laws.proofs.Outcomes.{one_outcome_law}
use Rattle.model_laws.proofs.one_outcome_law.Goals as goal

pub returns : goal.returns
returns c = one_outcome_law
