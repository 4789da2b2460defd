use Rattle.std.proofs.Common.{◌≡◌, ◌≤◌, drop, length}
use Rattle.coco_model.specs.Carried.{stored_word}
use Rattle.coco_model.specs.Known.{ones}
use Rattle.coco_model.specs.Nodes.{starting_nodes}
use Rattle.coco_model.specs.Stepped.{row_of}
use Rattle.unroll.specs.NodeRows.{nodes_of}
use Rattle.unroll.proofs.memory.stored_node.Given as goal

abbrev pub invariant-ports : goal.invariant-ports
invariant-ports l = record {
  within : l.rest ≤ length l.memories;
  so_far : l.node ≡ stored_word starting_nodes (ones (row_of l.past.parts.now)) (nodes_of l.past.copies.now) (drop l.rest l.memories) l.address l.place l.fn.kept;
}

abbrev pub decreases-ports : goal.decreases-ports
decreases-ports l = l.rest
