use Rattle.std.proofs.Common.{map, take}
use Rattle.unroll.specs.NodeWrites.{IsWritten, start_write}
use Rattle.unroll.proofs.leaves.write_starts.Given as goal

abbrev pub invariant-flops : goal.invariant-flops
invariant-flops l = IsWritten (map (start_write l.table l.starts) (take l.number l.graph.flat.flops)) l.fn.row l.row
