use Rattle.model_laws.proofs.Unique.{one_forced_law}
use Rattle.model_laws.proofs.one_forced_law.Goals as goal

pub returns : goal.returns
returns c = one_forced_law
