use Rattle.label_cone.proofs.ConeLemmas.{cones_more}
use Rattle.label_cone.proofs.node_sets.node_sets.Goals as goal

pub nodes-preserved : goal.nodes-preserved
nodes-preserved c = (
  c.in_ok-add_node.ensures.sets,
  cones_more c.args.nodes.now c.nodes.node-index _ _ c.nodes.invariant.1
      (c.requires.ordered c.nodes.node-index c.nodes-test.true) c.in_ok-add_node.ensures.cone,
)
