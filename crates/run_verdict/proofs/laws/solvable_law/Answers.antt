use Rattle.run_verdict.proofs.Meanings.{solvable}
use Rattle.run_verdict.proofs.laws.solvable_law.Goals as goal

pub returns : goal.returns
returns c = solvable c.fit_law.ensures c.range_law.ensures
