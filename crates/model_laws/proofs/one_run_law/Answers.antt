use Rattle.model_laws.proofs.Unique.{one_run_law}
use Rattle.model_laws.proofs.one_run_law.Goals as goal

pub returns : goal.returns
returns c = one_run_law
