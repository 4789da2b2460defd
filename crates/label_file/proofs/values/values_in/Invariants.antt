use Rattle.std.proofs.Common.{◌≡◌, length}
use Rattle.coco_base.specs.Texts.{texts}
use Rattle.label_file.specs.Values.{values_in}
use Rattle.label_file.proofs.ValueLemmas.{behind}
use Rattle.label_file.proofs.values.values_in.Given as goal

abbrev pub invariant-words : goal.invariant-words
invariant-words l = behind l.values (values_in l.names (texts l.rest)) ≡ values_in l.names (texts l.words)

abbrev pub decreases-words : goal.decreases-words
decreases-words l = length l.rest
