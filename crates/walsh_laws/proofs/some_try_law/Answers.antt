use Rattle.walsh_laws.proofs.UnrolledFindings.{some_try_law}
use Rattle.walsh_laws.proofs.some_try_law.Goals as goal

pub returns : goal.returns
returns c = some_try_law
