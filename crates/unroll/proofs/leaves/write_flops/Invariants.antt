use Rattle.std.proofs.Common.{map, take}
use Rattle.unroll.specs.NodeRows.{nodes_of}
use Rattle.unroll.specs.NodeWrites.{IsWritten, flop_write}
use Rattle.unroll.proofs.leaves.write_flops.Given as goal

abbrev pub invariant-flops : goal.invariant-flops
invariant-flops l = IsWritten (map (flop_write (nodes_of l.copies)) (take l.number l.graph.flat.flops)) l.fn.row l.row
