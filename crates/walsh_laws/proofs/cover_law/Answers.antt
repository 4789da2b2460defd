use Rattle.walsh_laws.proofs.Cover.{cover_law}
use Rattle.walsh_laws.proofs.cover_law.Goals as goal

pub returns : goal.returns
returns c = cover_law
