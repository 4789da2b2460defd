use Rattle.formula_laws.proofs.InRun.{finding_in_run}
use Rattle.formula_laws.proofs.in_run_law.Goals as goal

pub returns : goal.returns
returns c = finding_in_run c.clauses_law.ensures c.sound_probes_law.ensures
