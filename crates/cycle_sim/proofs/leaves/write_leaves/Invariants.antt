use Rattle.std.proofs.Common.{take}
use Rattle.std.specs.Prelude.{flat_map}
use Rattle.coco_base.specs.declared.setup.LeafPlan.{LeafPlan}
use Rattle.cycle_sim.specs.Memories.{word_part}
use Rattle.cycle_sim.specs.Writes.{IsWritten, bit_writes}
use Rattle.cycle_sim.proofs.leaves.write_leaves.Given as goal

abbrev pub invariant-leaves : goal.invariant-leaves
invariant-leaves l = IsWritten (flat_map (λ (leaf : LeafPlan). bit_writes (λ k b. word_part l.memory leaf.address k) 0 leaf.bits) (take l.leaf-index l.leaves)) l.fn.row l.row
