use Rattle.std.proofs.Common.{ℕ, ◌≤◌, drop, length}
use Rattle.coco_base.specs.declared.unrolled.Node.{Node}
use Rattle.coco_model.specs.Carried.{stored_word}
use Rattle.coco_model.specs.Known.{ones}
use Rattle.coco_model.specs.Nodes.{starting_nodes}
use Rattle.coco_model.specs.Stepped.{row_of}
use Rattle.unroll.specs.NodeRows.{nodes_of}
use Rattle.unroll.specs.NodeWords.{HoldsNodes}
use Rattle.unroll.proofs.memory.store.Given as goal

abbrev pub invariant-ports : goal.invariant-ports
invariant-ports l = record {
  within : l.rest ≤ length l.memories;
  holds : (word : ℕ → ℕ → Node) → HoldsNodes l.fn.memory word → HoldsNodes l.memory (λ address k. stored_word starting_nodes (ones (row_of l.past.parts.now)) (nodes_of l.past.copies.now) (drop l.rest l.memories) address k (word address k));
}

abbrev pub decreases-ports : goal.decreases-ports
decreases-ports l = l.rest
