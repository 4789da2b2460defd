use Rattle.walsh_laws.proofs.RunCounting.{run_counting_law}
use Rattle.walsh_laws.proofs.run_counting_law.Goals as goal

pub returns : goal.returns
returns c = run_counting_law
