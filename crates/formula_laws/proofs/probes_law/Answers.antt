use Rattle.formula_laws.proofs.ProbeChoices.{probes_law}
use Rattle.formula_laws.proofs.probes_law.Goals as goal

pub returns : goal.returns
returns c = probes_law
