use Rattle.model_laws.proofs.Settling.{some_settled_law}
use Rattle.model_laws.proofs.some_settled_law.Goals as goal

pub returns : goal.returns
returns c = some_settled_law
