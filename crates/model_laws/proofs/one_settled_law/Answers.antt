use Rattle.model_laws.proofs.Unique.{one_settled_law}
use Rattle.model_laws.proofs.one_settled_law.Goals as goal

pub returns : goal.returns
returns c = one_settled_law
