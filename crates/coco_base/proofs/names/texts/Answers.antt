-- one name more
use Rattle.std.proofs.Common.{zero-add}
use Rattle.std.proofs.lemmas.List.FromFn.{map-range_with_len_more}
use Rattle.coco_base.specs.BitNames.{bit_text}
use Rattle.coco_base.specs.Shown.{place_at}
use Rattle.coco_base.proofs.names.texts.Goals as goal

pub bits-preserved : goal.bits-preserved
bits-preserved c =
    let name = c.in_ok-text.ensures in
    rw (map-range_with_len_more (λ k. bit_text k (place_at c.args.table.now k)) 0 c.bits.bit c.bits.bit (zero-add c.bits.bit), ← name, ← c.bits.invariant)
    c.in_ok-push.ensures.ok
