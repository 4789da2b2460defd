use Rattle.walsh_laws.proofs.Writing.{reading_law}
use Rattle.walsh_laws.proofs.reading_law.Goals as goal

pub returns : goal.returns
returns c = reading_law
