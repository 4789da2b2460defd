use Rattle.walsh_laws.proofs.Counting.{counting_law}
use Rattle.walsh_laws.proofs.counting_law.Goals as goal

pub returns : goal.returns
returns c = counting_law
