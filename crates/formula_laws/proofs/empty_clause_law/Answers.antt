use Rattle.formula_laws.proofs.EmptyClause.{empty_clause}
use Rattle.formula_laws.proofs.empty_clause_law.Goals as goal

pub returns : goal.returns
returns c = empty_clause c.labels_law.ensures
