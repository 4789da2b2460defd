use Rattle.std.proofs.Common.{◌≡◌, length}
use Rattle.coco_model.specs.Carried.{word_start}
use Rattle.bind_run.proofs.starts.word_start.Given as goal

abbrev pub invariant-words : goal.invariant-words
invariant-words l = word_start l.rest l.address l.place ≡ word_start l.words l.address l.place

abbrev pub decreases-words : goal.decreases-words
decreases-words l = length l.rest
