use Rattle.std.proofs.Common.{◌≡◌, ◌≤◌, take}
use Rattle.std.specs.Str.Parse.{digits_value}
use Rattle.coco_base.proofs.number.number_of.Given as goal

abbrev pub invariant-digits : goal.invariant-digits
invariant-digits l = (l.number ≡ digits_value l.radix (take l.byte-index l.word)) × (l.number ≤ l.most)
