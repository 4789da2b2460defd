use Rattle.std.proofs.Common.{map, take}
use Rattle.unroll.specs.NodeRows.{nodes_of}
use Rattle.unroll.specs.NodeWrites.{IsWritten, echo_write}
use Rattle.unroll.proofs.leaves.write_echoes.Given as goal

abbrev pub invariant-plans : goal.invariant-plans
invariant-plans l = IsWritten (map (echo_write (nodes_of l.copies)) (take l.plan-index l.echoes)) l.fn.row l.row
