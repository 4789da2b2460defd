use Rattle.std.proofs.Common.{ℕ, ◌≤◌, drop, length}
use Rattle.coco_model.specs.Carried.{stored_word}
use Rattle.coco_model.specs.Known.{Row, ones, parts}
use Rattle.coco_model.specs.Stepped.{row_of}
use Rattle.cycle_sim.specs.Memories.{HoldsWords}
use Rattle.cycle_sim.proofs.memory.store.Given as goal

abbrev pub invariant-ports : goal.invariant-ports
invariant-ports l = record {
  within : l.rest ≤ length l.memories;
  holds : (word : ℕ → Row) → HoldsWords l.fn.memory word → HoldsWords l.memory (λ address k. stored_word parts (ones (row_of l.row)) (row_of l.row) (drop l.rest l.memories) address k (word address k));
}

abbrev pub decreases-ports : goal.decreases-ports
decreases-ports l = l.rest
