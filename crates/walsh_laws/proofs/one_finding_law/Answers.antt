use Rattle.walsh_laws.proofs.OneFinding.{one_finding_law}
use Rattle.walsh_laws.proofs.one_finding_law.Goals as goal

pub returns : goal.returns
returns c = one_finding_law
