use Rattle.walsh_laws.proofs.RunCorrelation.{run_correlation_law}
use Rattle.walsh_laws.proofs.run_correlation_law.Goals as goal

pub returns : goal.returns
returns c = run_correlation_law
