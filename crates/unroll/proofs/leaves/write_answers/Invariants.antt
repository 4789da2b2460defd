use Rattle.std.proofs.Common.{take}
use Rattle.std.specs.Prelude.{flat_map}
use Rattle.coco_base.specs.declared.setup.MemPlan.{MemPlan}
use Rattle.coco_model.specs.Known.{ones}
use Rattle.coco_model.specs.Stepped.{row_of}
use Rattle.unroll.specs.NodeRows.{nodes_of}
use Rattle.unroll.specs.NodeWrites.{IsWritten, bit_writes, answer_node}
use Rattle.unroll.proofs.leaves.write_answers.Given as goal

abbrev pub invariant-ports : goal.invariant-ports
invariant-ports l = IsWritten (flat_map (λ (m : MemPlan). bit_writes (answer_node (ones (row_of l.past.parts.now)) (nodes_of l.past.copies.now) l.memory m) 0 m.answer) (take l.mem-index l.memories)) l.fn.row l.row
