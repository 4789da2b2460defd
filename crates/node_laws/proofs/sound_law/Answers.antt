use Rattle.node_laws.proofs.Sound.{sound}
use Rattle.node_laws.proofs.sound_law.Goals as goal

pub returns : goal.returns
returns c = sound c.gates_law.ensures c.least_choice_law.ensures
