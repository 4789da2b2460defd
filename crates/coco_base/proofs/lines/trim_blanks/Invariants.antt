use Rattle.std.proofs.Common.{◌≡◌, ◌≤◌, length}
use denote.Text.{Utf8}
use denote.Shadow.{shadow}
use Rattle.coco_base.specs.Texts.{words}
use Rattle.coco_base.proofs.lines.trim_blanks.Given as goal

abbrev pub invariant-blanks : goal.invariant-blanks
invariant-blanks l = shadow (Utf8 l.rest) × (words l.rest ≡ words l.line) × (length l.rest ≤ length l.line)

abbrev pub decreases-blanks : goal.decreases-blanks
decreases-blanks l = length l.rest
