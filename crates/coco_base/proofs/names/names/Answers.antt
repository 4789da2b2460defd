-- each place of the table names its bit
use Rattle.std.proofs.Common.{◌≡◌, ◌<◌, ℕ, ap, arith, length, zero-add}
use Rattle.coco_base.specs.BitNames.{bit_text, name_of_bit}
use Rattle.coco_base.specs.Shown.{place_at}
use Rattle.coco_base.proofs.Ranges.{map-agree}
use Rattle.coco_base.proofs.names.names.Goals as goal

pub returns : goal.returns
returns c =
    let flat = c.args.flat.now in
    let table = c.note_all.new.table in
    let same : (k : ℕ) → k < length c.args.table.now → bit_text k (place_at table k) ≡ name_of_bit flat k =
    λ k within. ap (bit_text k) (rw (zero-add k) at (c.note_all.ensures k within)) in
    let len : length table ≡ length c.args.table.now = omega arith in
    rw (← map-agree (λ k. bit_text k (place_at table k)) (name_of_bit flat) 0 (length c.args.table.now) (λ k low high. same k (omega arith)), ← len)
    c.texts.ensures
