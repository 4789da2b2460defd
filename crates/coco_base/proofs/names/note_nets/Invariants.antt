-- the best places so far, with the nets that are left, are the best of all
use Rattle.std.proofs.Common.{◌≡◌, ℕ, ◌+◌, ◌<◌, length, drop, fold, flat_map}
use Rattle.coco_base.specs.BitNames.{better, net_places}
use Rattle.coco_base.specs.Shown.{place_at}
use Rattle.coco_base.proofs.names.note_nets.Given as goal

abbrev pub invariant-nets : goal.invariant-nets
invariant-nets l = (k : ℕ) → k < length l.table →
    fold better (place_at l.table k) (flat_map (net_places (l.first + k)) (drop l.net-index l.nets))
    ≡ fold better (place_at l.initial.table k) (flat_map (net_places (l.first + k)) l.nets)
