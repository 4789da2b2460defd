use Rattle.std.proofs.Common.{ℕ, ◌<◌}
use Rattle.label_cone.specs.NodeCones.{ReadsEarlier, node_in}
use Rattle.label_cone.proofs.order.are_ordered.Given as goal

abbrev pub invariant-nodes : goal.invariant-nodes
invariant-nodes l = (i : ℕ) → i < l.place → ReadsEarlier i (node_in l.nodes i)
