use Rattle.model_laws.proofs.Fewer.{fewer_cycles_law}
use Rattle.model_laws.proofs.fewer_cycles_law.Goals as goal

pub returns : goal.returns
returns c = fewer_cycles_law
