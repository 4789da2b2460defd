use Rattle.std.proofs.Common.{take}
use Rattle.std.specs.Prelude.{flat_map}
use Rattle.coco_base.specs.declared.setup.MemPlan.{MemPlan}
use Rattle.coco_model.specs.Stepped.{row_of}
use Rattle.cycle_sim.specs.Writes.{IsWritten, bit_writes, answer_part}
use Rattle.cycle_sim.proofs.leaves.write_answers.Given as goal

abbrev pub invariant-ports : goal.invariant-ports
invariant-ports l = IsWritten (flat_map (λ (m : MemPlan). bit_writes (answer_part (row_of l.before) l.memory m) 0 m.answer) (take l.mem-index l.memories)) l.fn.row l.row
