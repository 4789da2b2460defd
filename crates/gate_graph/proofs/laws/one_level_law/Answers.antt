use Rattle.gate_graph.specs.Laws.{OneLevelLaw}
use Rattle.gate_graph.proofs.LevelLemmas.{one_level}
use Rattle.gate_graph.proofs.laws.one_level_law.Goals as goal

pub returns : goal.returns
unfolding OneLevelLaw
returns c = one_level
