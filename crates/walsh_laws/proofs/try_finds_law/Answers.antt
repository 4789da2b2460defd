use Rattle.walsh_laws.proofs.UnrolledFindings.{try_finds_law}
use Rattle.walsh_laws.proofs.try_finds_law.Goals as goal

pub returns : goal.returns
returns c = try_finds_law
