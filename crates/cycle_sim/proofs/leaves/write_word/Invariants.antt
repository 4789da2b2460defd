use Rattle.std.proofs.Common.{take, ◌+◌}
use Rattle.coco_model.specs.Stepped.{row_of}
use Rattle.cycle_sim.specs.Writes.{IsWritten, bit_writes}
use Rattle.cycle_sim.proofs.leaves.write_word.Given as goal

abbrev pub invariant-bits : goal.invariant-bits
invariant-bits l = IsWritten (bit_writes (λ k b. row_of l.memory (l.start + k)) 0 (take l.place l.bits)) l.fn.row l.row
