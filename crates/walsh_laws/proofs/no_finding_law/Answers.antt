use Rattle.walsh_laws.proofs.NoFinding.{no_finding_law}
use Rattle.walsh_laws.proofs.no_finding_law.Goals as goal

pub returns : goal.returns
returns c = no_finding_law
