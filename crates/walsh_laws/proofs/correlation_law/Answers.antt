use Rattle.walsh_laws.proofs.Correlation.{correlation_law}
use Rattle.walsh_laws.proofs.correlation_law.Goals as goal

pub returns : goal.returns
returns c = correlation_law
