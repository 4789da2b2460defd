use Rattle.std.proofs.Common.{take}
use Rattle.std.specs.Prelude.{flat_map}
use Rattle.coco_base.specs.declared.setup.LeafPlan.{LeafPlan}
use Rattle.coco_model.specs.Carried.{stored_word}
use Rattle.coco_model.specs.Known.{ones}
use Rattle.coco_model.specs.Nodes.{starting_nodes}
use Rattle.coco_model.specs.Stepped.{row_of}
use Rattle.unroll.specs.NodeRows.{nodes_of}
use Rattle.unroll.specs.NodeWrites.{IsWritten, bit_writes}
use Rattle.unroll.proofs.leaves.write_leaves.Given as goal

abbrev pub invariant-leaves : goal.invariant-leaves
invariant-leaves l = IsWritten (flat_map (λ (leaf : LeafPlan). bit_writes (λ k b. stored_word starting_nodes (ones (row_of l.past.parts.now)) (nodes_of l.past.copies.now) l.memories leaf.address k (nodes_of l.past.copies.now b)) 0 leaf.bits) (take l.leaf-index l.leaves)) l.fn.row l.row
