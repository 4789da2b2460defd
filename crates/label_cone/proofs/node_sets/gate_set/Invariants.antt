use Rattle.label_cone.specs.NodeCones.{HasLiveLabels, cones_in}
use Rattle.label_cone.proofs.node_sets.gate_set.Given as goal

abbrev pub invariant-inputs : goal.invariant-inputs
invariant-inputs l = HasLiveLabels (cones_in l.sets l.places) l.gate.kind l.gate.parts l.gate.operands l.place l.set
