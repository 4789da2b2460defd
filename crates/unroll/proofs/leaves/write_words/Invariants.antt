use Rattle.std.proofs.Common.{take}
use Rattle.std.specs.Prelude.{flat_map}
use Rattle.coco_base.specs.declared.setup.LeafPlan.{LeafPlan}
use Rattle.unroll.specs.NodeWords.{word_node}
use Rattle.unroll.specs.NodeWrites.{IsWritten, bit_writes}
use Rattle.unroll.proofs.leaves.write_words.Given as goal

abbrev pub invariant-leaves : goal.invariant-leaves
invariant-leaves l = IsWritten (flat_map (λ (leaf : LeafPlan). bit_writes (λ k b. word_node l.memory leaf.address k) 0 leaf.bits) (take l.leaf-index l.leaves)) l.fn.row l.row
