use Rattle.probe_laws.proofs.Sound.{sound}
use Rattle.probe_laws.proofs.sound_probes_law.Goals as goal

pub returns : goal.returns
returns c = sound c.gates_law.ensures (record { counts = c.tally_law.ensures; limits = c.limit_law.ensures })
