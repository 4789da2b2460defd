use Rattle.std.proofs.Common.{◌≡◌, ◌+◌, length}
use Rattle.coco_base.specs.Texts.{texts}
use Rattle.label_file.specs.Files.{words_of}
use Rattle.label_file.proofs.read.words_of.Given as goal

abbrev pub invariant-words : goal.invariant-words
invariant-words l = record {
  size : l.count + length l.rest ≡ length l.words;
  value : l.count + words_of (texts l.rest) ≡ words_of (texts l.words);
}

abbrev pub decreases-words : goal.decreases-words
decreases-words l = length l.rest
