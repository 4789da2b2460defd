use Rattle.label_cone.specs.Coned.{mark_at}
use Rattle.label_cone.specs.NodeCones.{cone_at, cones_in}
use Rattle.label_cone.specs.Weights.{AreSumsTo}
use Rattle.label_cone.proofs.weight.need.Given as goal

abbrev pub invariant-nodes : goal.invariant-nodes
invariant-nodes l =
    AreSumsTo l.fn.base l.nodes (mark_at l.marks) (cone_at (cones_in l.cones.sets l.cones.places.items)) l.fn.limit l.place l.sum l.need
