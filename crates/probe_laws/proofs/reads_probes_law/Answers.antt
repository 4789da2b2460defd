use Rattle.probe_laws.proofs.LowPart.{reads_earlier}
use Rattle.probe_laws.proofs.reads_probes_law.Goals as goal

pub returns : goal.returns
returns c = reads_earlier
