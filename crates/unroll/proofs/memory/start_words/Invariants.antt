use Rattle.std.proofs.Common.{◌≡◌, ◌≤◌, drop, length}
use Rattle.coco_model.specs.Carried.{start_word}
use Rattle.coco_model.specs.Nodes.{starting_nodes}
use Rattle.cycle_sim.specs.Memories.{word_bits}
use Rattle.unroll.specs.NodeWords.{HoldsNodes}
use Rattle.unroll.proofs.memory.start_words.Given as goal

abbrev pub invariant-words : goal.invariant-words
invariant-words l = record {
  within : l.rest ≤ length l.words;
  long : length l.memory.items ≡ word_bits;
  holds : HoldsNodes l.memory.items (start_word starting_nodes l.table (drop l.rest l.words));
}

abbrev pub decreases-words : goal.decreases-words
decreases-words l = l.rest
