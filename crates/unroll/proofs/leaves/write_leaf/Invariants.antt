use Rattle.std.proofs.Common.{take}
use Rattle.coco_model.specs.Carried.{stored_word}
use Rattle.coco_model.specs.Known.{ones}
use Rattle.coco_model.specs.Nodes.{starting_nodes}
use Rattle.coco_model.specs.Stepped.{row_of}
use Rattle.unroll.specs.NodeRows.{nodes_of}
use Rattle.unroll.specs.NodeWrites.{IsWritten, bit_writes}
use Rattle.unroll.proofs.leaves.write_leaf.Given as goal

abbrev pub invariant-bits : goal.invariant-bits
invariant-bits l = IsWritten (bit_writes (λ k b. stored_word starting_nodes (ones (row_of l.past.parts.now)) (nodes_of l.past.copies.now) l.memories l.leaf.address k (nodes_of l.past.copies.now b)) 0 (take l.place l.bits)) l.fn.row l.row
