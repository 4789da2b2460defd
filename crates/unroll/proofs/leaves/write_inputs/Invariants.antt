use Rattle.std.proofs.Common.{map, take}
use Rattle.unroll.specs.NodeWrites.{IsWritten, input_write}
use Rattle.unroll.proofs.leaves.write_inputs.Given as goal

abbrev pub invariant-plans : goal.invariant-plans
invariant-plans l = IsWritten (map (input_write l.table l.cycle) (take l.plan-index l.inputs)) l.fn.row l.row
