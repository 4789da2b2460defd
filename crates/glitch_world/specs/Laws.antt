-- The schedule that settles a cycle.
use Rattle.std.specs.Prelude.{◌≡◌, ℕ, List, ◌++◌, map, Contains, ◌↔◌}
use Rattle.coco_model.specs.Netlist.{Valuation}
use Rattle.coco_model.specs.Events.{after_events}
use Rattle.coco_model.specs.Events.Event.{leaf, cell}
use Rattle.gate_graph.specs.Graphs.{Gates, IsBuilt}
use Rattle.gate_graph.specs.Settled.{IsSettledBy}
use Rattle.glitch_world.specs.Leaves.{IsLeafBit}

-- from the settled valuation of the old leaves, the events of all leaves, in any order, and then of all cells by rank
-- end in the settled valuation of the new leaves
unfoldable pub ScheduleLaw : Type 0
ScheduleLaw =
    (gates : Gates) (old new before after : Valuation) (leaves : List ℕ) → IsBuilt gates → IsSettledBy gates.flat old before
    → IsSettledBy gates.flat new after
    → ((b : ℕ) → Contains leaves b ↔ IsLeafBit gates b)
    → (b : ℕ) → after_events gates.flat new before (map leaf leaves ++ map cell gates.order) b ≡ after b
