-- the best places so far, with the wires that are left, are the best of all
use Rattle.std.proofs.Common.{◌≡◌, ℕ, ◌+◌, ◌<◌, length, drop, fold}
use Rattle.coco_base.specs.BitNames.{better, places_from}
use Rattle.coco_base.specs.Shown.{place_at}
use Rattle.coco_base.proofs.names.note.Given as goal

abbrev pub invariant-wires : goal.invariant-wires
invariant-wires l = (k : ℕ) → k < length l.table →
    fold better (place_at l.table k) (places_from l.name (length l.wires) l.place (drop l.place l.wires) (l.first + k))
    ≡ fold better (place_at l.initial.table k) (places_from l.name (length l.wires) 0 l.wires (l.first + k))
