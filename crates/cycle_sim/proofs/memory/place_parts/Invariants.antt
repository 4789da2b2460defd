use Rattle.std.proofs.Common.{false, get_or}
use Rattle.coco_base.specs.declared.labels.LabelTable.{LabelTable}
use Rattle.coco_base.specs.declared.setup.Start.TheVariants.{Public}
use Rattle.coco_model.specs.Carried.{start_state}
use Rattle.coco_model.specs.Known.{parts}
use Rattle.cycle_sim.specs.Memories.{IsPlaced}
use Rattle.cycle_sim.proofs.memory.place_parts.Given as goal

abbrev pub invariant-bits : goal.invariant-bits
invariant-bits l = (table : LabelTable) → IsPlaced l.place l.bit (λ k. start_state parts table 0 (get_or l.bits k (Public false))) l.fn.memory l.memory
