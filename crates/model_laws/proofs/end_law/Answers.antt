use Rattle.model_laws.proofs.Ends.{end_law}
use Rattle.model_laws.proofs.end_law.Goals as goal

pub returns : goal.returns
returns c = end_law
