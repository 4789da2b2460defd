use Rattle.formula_laws.proofs.NodeCones.{node_cones}
use Rattle.formula_laws.proofs.node_cones_law.Goals as goal

pub returns : goal.returns
returns c = node_cones
