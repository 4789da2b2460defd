use Rattle.std.proofs.Common.{take}
use Rattle.unroll.specs.NodeRows.{nodes_of}
use Rattle.unroll.specs.NodeWrites.{IsWritten, bit_writes}
use Rattle.unroll.proofs.leaves.keep.Given as goal

abbrev pub invariant-bits : goal.invariant-bits
invariant-bits l = IsWritten (bit_writes (λ k b. nodes_of l.copies b) 0 (take l.place l.bits)) l.fn.row l.row
