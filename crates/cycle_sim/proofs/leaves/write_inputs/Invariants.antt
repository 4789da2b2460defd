use Rattle.std.proofs.Common.{map, take}
use Rattle.coco_base.specs.declared.labels.LabelTable.{LabelTable}
use Rattle.cycle_sim.specs.Writes.{IsWritten, input_write}
use Rattle.cycle_sim.proofs.leaves.write_inputs.Given as goal

abbrev pub invariant-plans : goal.invariant-plans
invariant-plans l = (table : LabelTable) → IsWritten (map (input_write table l.cycle) (take l.plan-index l.inputs)) l.fn.row l.row
