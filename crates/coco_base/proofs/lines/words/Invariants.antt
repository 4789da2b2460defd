use Rattle.std.proofs.Common.{◌≡◌, ◌++◌, length}
use denote.Text.{Utf8}
use denote.Shadow.{shadow}
use Rattle.coco_base.specs.Texts.{texts, words}
use Rattle.coco_base.proofs.lines.words.Given as goal

abbrev pub invariant-words : goal.invariant-words
invariant-words l = shadow (Utf8 l.rest) × (texts l.all ++ words l.rest ≡ words l.line)

abbrev pub decreases-words : goal.decreases-words
decreases-words l = length l.rest
