use Rattle.probe_laws.proofs.Complete.{complete}
use Rattle.probe_laws.proofs.complete_probes_law.Goals as goal

pub returns : goal.returns
returns c = complete c.evaluation_law.ensures c.gates_law.ensures (record { counts = c.tally_law.ensures; limits = c.limit_law.ensures })
