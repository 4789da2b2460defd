use Rattle.walsh_laws.proofs.InTime.{in_time_law}
use Rattle.walsh_laws.proofs.in_time_law.Goals as goal

pub returns : goal.returns
returns c = in_time_law
