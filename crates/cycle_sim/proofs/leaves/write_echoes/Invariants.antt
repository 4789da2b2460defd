use Rattle.std.proofs.Common.{map, take}
use Rattle.coco_model.specs.Stepped.{row_of}
use Rattle.cycle_sim.specs.Writes.{IsWritten, echo_write}
use Rattle.cycle_sim.proofs.leaves.write_echoes.Given as goal

abbrev pub invariant-plans : goal.invariant-plans
invariant-plans l = IsWritten (map (echo_write (row_of l.before)) (take l.plan-index l.echoes)) l.fn.row l.row
