use Rattle.formula_laws.proofs.Weights.{weights}
use Rattle.formula_laws.proofs.weights_law.Goals as goal

pub returns : goal.returns
returns c = weights
