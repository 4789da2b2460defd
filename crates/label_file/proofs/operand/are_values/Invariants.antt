use Rattle.std.proofs.Common.{◌≡◌, length}
use Rattle.std.specs.List.{list_all}
use Rattle.coco_base.specs.Texts.{texts}
use Rattle.label_file.specs.Operands.{is_value}
use Rattle.label_file.proofs.operand.are_values.Given as goal

abbrev pub invariant-words : goal.invariant-words
invariant-words l = list_all is_value (texts l.rest) ≡ list_all is_value (texts l.words)

abbrev pub decreases-words : goal.decreases-words
decreases-words l = length l.rest
