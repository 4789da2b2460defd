use Rattle.formula_laws.proofs.FormulaSize.{need_size}
use Rattle.formula_laws.proofs.need_law.Goals as goal

pub returns : goal.returns
returns c = need_size c.labels_law.ensures
