use Rattle.model_laws.proofs.Unique.{one_known_law}
use Rattle.model_laws.proofs.one_known_law.Goals as goal

pub returns : goal.returns
returns c = one_known_law
