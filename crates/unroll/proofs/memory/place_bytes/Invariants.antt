use Rattle.coco_model.specs.Stepped.{row_of}
use Rattle.unroll.specs.NodeRows.{nodes_of}
use Rattle.unroll.specs.NodeWords.{IsPlaced, port_node}
use Rattle.unroll.proofs.memory.place_bytes.Given as goal

abbrev pub invariant-bits : goal.invariant-bits
invariant-bits l = IsPlaced l.place l.bit (port_node (row_of l.past.parts.now) (nodes_of l.past.copies.now) l.mem l.place l.fn.memory) l.fn.memory l.memory
