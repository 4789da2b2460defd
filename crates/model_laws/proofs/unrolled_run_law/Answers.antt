use Rattle.model_laws.proofs.UnrolledValues.{unrolled_run_law}
use Rattle.model_laws.proofs.unrolled_run_law.Goals as goal

pub returns : goal.returns
returns c = unrolled_run_law
