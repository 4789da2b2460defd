use Rattle.walsh_laws.proofs.Writing.{writing_law}
use Rattle.walsh_laws.proofs.writing_law.Goals as goal

pub returns : goal.returns
returns c = writing_law
