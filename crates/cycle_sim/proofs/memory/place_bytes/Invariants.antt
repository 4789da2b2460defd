use Rattle.coco_model.specs.Stepped.{row_of}
use Rattle.cycle_sim.specs.Memories.{IsPlaced, port_part}
use Rattle.cycle_sim.proofs.memory.place_bytes.Given as goal

abbrev pub invariant-bits : goal.invariant-bits
invariant-bits l = IsPlaced l.place l.bit (port_part (row_of l.row) l.mem l.place l.fn.memory) l.fn.memory l.memory
