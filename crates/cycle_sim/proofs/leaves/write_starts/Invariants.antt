use Rattle.std.proofs.Common.{map, take}
use Rattle.coco_base.specs.declared.labels.LabelTable.{LabelTable}
use Rattle.cycle_sim.specs.Writes.{IsWritten, start_write}
use Rattle.cycle_sim.proofs.leaves.write_starts.Given as goal

abbrev pub invariant-flops : goal.invariant-flops
invariant-flops l = (table : LabelTable) → IsWritten (map (start_write table l.starts) (take l.number l.graph.flat.flops)) l.fn.row l.row
