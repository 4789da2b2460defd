use Rattle.std.proofs.Common.{ℕ, sym, subst}
use Rattle.coco_base.specs.declared.setup.LeafPlan.{LeafPlan}
use Rattle.coco_model.specs.Carried.{stored_word}
use Rattle.coco_model.specs.Known.{ones}
use Rattle.coco_model.specs.Nodes.{starting_nodes}
use Rattle.coco_model.specs.Stepped.{row_of}
use Rattle.cycle_sim.specs.Writes.{IsLeafWord}
use Rattle.unroll.specs.NodeRows.{nodes_of}
use Rattle.unroll.specs.NodeWrites.{bit_writes}
use Rattle.unroll.proofs.WriteLemmas.{member_at, joined_more}
use Rattle.unroll.proofs.leaves.write_leaves.Goals as goal

pub write_leaf-requires-clause-leaf : goal.write_leaf-requires-clause-leaf
write_leaf-requires-clause-leaf c =
    subst (λ (n : ℕ). IsLeafWord n c.leaf-item.result) (sym c.leaves.auto.row)
    (c.requires.leaves c.leaf-item.result (member_at c.args.leaves.now c.leaves.leaf-index c.leaf-item.result c.leaves-test.true c.leaf-item.is))

pub leaves-preserved : goal.leaves-preserved
leaves-preserved c =
    joined_more (λ (leaf : LeafPlan). bit_writes (λ k b. stored_word starting_nodes (ones (row_of c.args.past.parts.now)) (nodes_of c.args.past.copies.now) c.args.memories.now leaf.address k (nodes_of c.args.past.copies.now b)) 0 leaf.bits) c.args.leaves.now c.leaves.leaf-index c.leaf-item.result
    c.args.row.now c.leaves.row _ c.leaves-test.true c.leaf-item.is c.leaves.invariant c.write_leaf.ensures
