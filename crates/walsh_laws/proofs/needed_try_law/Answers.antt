use Rattle.walsh_laws.proofs.NeededTries.{needed_try_law}
use Rattle.walsh_laws.proofs.needed_try_law.Goals as goal

pub returns : goal.returns
returns c = needed_try_law
