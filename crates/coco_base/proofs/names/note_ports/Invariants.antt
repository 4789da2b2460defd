-- the best places so far, with the ports that are left, are the best of all
use Rattle.std.proofs.Common.{◌≡◌, ℕ, ◌+◌, ◌<◌, length, drop, fold, flat_map}
use Rattle.coco_base.specs.BitNames.{better, port_places}
use Rattle.coco_base.specs.Shown.{place_at}
use Rattle.coco_base.proofs.names.note_ports.Given as goal

abbrev pub invariant-ports : goal.invariant-ports
invariant-ports l = (k : ℕ) → k < length l.table →
    fold better (place_at l.table k) (flat_map (port_places (l.first + k)) (drop l.port-index l.ports))
    ≡ fold better (place_at l.initial.table k) (flat_map (port_places (l.first + k)) l.ports)
