use Rattle.std.proofs.Common.{map, take}
use Rattle.coco_model.specs.Stepped.{row_of}
use Rattle.cycle_sim.specs.Writes.{IsWritten, flop_write}
use Rattle.cycle_sim.proofs.leaves.write_flops.Given as goal

abbrev pub invariant-flops : goal.invariant-flops
invariant-flops l = IsWritten (map (flop_write (row_of l.before)) (take l.number l.graph.flat.flops)) l.fn.row l.row
