use Rattle.std.proofs.Common.{◌≡◌, length}
use Rattle.std.specs.List.{list_any}
use Rattle.coco_base.specs.Texts.{texts}
use Rattle.label_file.specs.Values.{is_unknown}
use Rattle.label_file.proofs.values.has_unknown.Given as goal

abbrev pub invariant-words : goal.invariant-words
invariant-words l = list_any (is_unknown l.names) (texts l.rest) ≡ list_any (is_unknown l.names) (texts l.words)

abbrev pub decreases-words : goal.decreases-words
decreases-words l = length l.rest
