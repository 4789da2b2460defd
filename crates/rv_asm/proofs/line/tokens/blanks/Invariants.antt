use Rattle.std.proofs.Common.{◌≡◌, ◌+◌, length}
use Rattle.std.specs.List.{prefix_len}
use Rattle.coco_base.specs.Texts.{is_blank}
use Rattle.rv_asm.proofs.line.tokens.blanks.Given as goal

abbrev pub invariant-blanks : goal.invariant-blanks
invariant-blanks l = (l.count + length l.rest ≡ length l.bytes) × (l.count + prefix_len is_blank l.rest ≡ prefix_len is_blank l.bytes)

abbrev pub decreases-blanks : goal.decreases-blanks
decreases-blanks l = length l.rest
