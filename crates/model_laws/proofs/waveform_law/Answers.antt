use Rattle.model_laws.proofs.Calms.{waveform_law}
use Rattle.model_laws.proofs.waveform_law.Goals as goal

pub returns : goal.returns
returns c = waveform_law
