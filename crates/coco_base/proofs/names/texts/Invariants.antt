-- the names of the bits so far
use Rattle.std.proofs.Common.{◌≡◌, map}
use Rattle.std.specs.List.{range_with_len}
use Rattle.coco_base.specs.BitNames.{bit_text}
use Rattle.coco_base.specs.Shown.{place_at}
use Rattle.coco_base.proofs.names.texts.Given as goal

abbrev pub invariant-bits : goal.invariant-bits
invariant-bits l = l.names ≡ map (λ k. bit_text k (place_at l.table k)) (range_with_len 0 l.bit)
