use Rattle.model_laws.proofs.Unique.{one_rooted_law}
use Rattle.model_laws.proofs.one_rooted_law.Goals as goal

pub returns : goal.returns
returns c = one_rooted_law
