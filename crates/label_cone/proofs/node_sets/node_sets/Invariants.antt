use Rattle.label_cone.specs.NodeCones.{AreConesTo, AreSets, cones_in}
use Rattle.label_cone.proofs.node_sets.node_sets.Given as goal

abbrev pub invariant-nodes : goal.invariant-nodes
invariant-nodes l =
    AreSets l.sets l.places.items × AreConesTo l.nodes l.node-index (cones_in l.sets l.places.items)
