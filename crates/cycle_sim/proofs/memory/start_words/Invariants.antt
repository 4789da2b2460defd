use Rattle.std.proofs.Common.{◌≡◌, ◌≤◌, drop, length}
use Rattle.coco_base.specs.declared.labels.LabelTable.{LabelTable}
use Rattle.coco_model.specs.Carried.{start_word}
use Rattle.coco_model.specs.Known.{parts}
use Rattle.cycle_sim.specs.Memories.{HoldsWords, word_bits}
use Rattle.cycle_sim.proofs.memory.start_words.Given as goal

abbrev pub invariant-words : goal.invariant-words
invariant-words l = record {
  within : l.rest ≤ length l.words;
  long : length l.memory.items ≡ word_bits;
  holds : (table : LabelTable) → HoldsWords l.memory.items (start_word parts table (drop l.rest l.words));
}

abbrev pub decreases-words : goal.decreases-words
decreases-words l = l.rest
