use Rattle.run_rows.proofs.RunLemmas.{run_rows_law}
use Rattle.run_rows.proofs.laws.run_rows_law.Goals as goal

pub returns : goal.returns
returns c = run_rows_law
