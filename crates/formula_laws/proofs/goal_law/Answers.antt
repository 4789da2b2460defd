use Rattle.formula_laws.proofs.Leaking.{goal_leaks}
use Rattle.formula_laws.proofs.goal_law.Goals as goal

pub returns : goal.returns
returns c = goal_leaks
