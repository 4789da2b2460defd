use Rattle.formula_laws.proofs.ProbeLabels.{labels_law}
use Rattle.formula_laws.proofs.labels_law.Goals as goal

pub returns : goal.returns
returns c = labels_law
