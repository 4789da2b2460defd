-- What contracts see of a world, and what an event makes of it.
use Rattle.std.specs.Prelude.{◌≡◌, ℕ, ◌<◌, Bool, List, length, slice_get, Some}
use Rattle.coco_base.specs.declared.netlist.FlatCell.{FlatCell}
use Rattle.coco_model.specs.Netlist.{cell_value}
use Rattle.coco_model.specs.Events.{Event as GateEvent, after_event}
use Rattle.coco_model.specs.Events.Event.{leaf, cell}
use Rattle.gate_graph.specs.Graphs.{Gates, IsBuilt}
use Rattle.gate_graph.specs.Settled.{valuation_of, IsSettledBy}
use Rattle.glitch_world.specs.Leaves.{IsLeafBit}
use Rattle.glitch_world.specs.declared.world.Event.{Event}
use Rattle.glitch_world.specs.declared.world.Event.TheVariants.{Leaf, Cell}

-- a graph, the new values of the leaves, and the present valuation
pub record WorldState : Type 0 where
  pub gates : Gates
  pub leaves : List Bool
  pub values : List Bool

abbrev pub state_of : Gates → List Bool → List Bool → WorldState
state_of gates leaves values = record { gates = gates; leaves = leaves; values = values }

-- both rows have a value for each bit
pub record IsWorldState (world : WorldState) : Type 0 where
  pub built : IsBuilt world.gates
  pub leaves_long : length world.leaves ≡ world.gates.flat.bits
  pub values_long : length world.values ≡ world.gates.flat.bits

-- the beginning of a cycle: settled under the old values of the leaves
pub record IsStart (gates : Gates) (old new : List Bool) (world : WorldState) : Type 0 where
  pub gates_are : world.gates ≡ gates
  pub leaves_are : world.leaves ≡ new
  pub settled : IsSettledBy gates.flat (valuation_of old) (valuation_of world.values)

-- an event is of a bit that a flop or an input port drives, or of a cell
abbrev pub IsEventIn : Gates → Event → Type 0
IsEventIn gates (Leaf bit) = IsLeafBit gates bit
IsEventIn gates (Cell number) = number < length gates.flat.cells

abbrev pub event_of : Event → GateEvent
event_of (Leaf bit) = leaf bit
event_of (Cell number) = cell number

-- a world after an event
pub record IsAfter (old : WorldState) (event : Event) (world : WorldState) : Type 0 where
  pub gates_stay : world.gates ≡ old.gates
  pub leaves_stay : world.leaves ≡ old.leaves
  pub happened : (bit : ℕ) → valuation_of world.values bit
      ≡ after_event old.gates.flat (valuation_of old.leaves) (valuation_of old.values) (event_of event) bit

-- the bit that an event sets, and the value that it gets
abbrev pub IsChange : WorldState → Event → ℕ → Bool → Type 0
IsChange world (Leaf bit) b value = (b ≡ bit) × (value ≡ valuation_of world.leaves bit)
IsChange world (Cell number) b value =
    (c : FlatCell) × (slice_get world.gates.flat.cells number ≡ Some c) × (b ≡ c.output)
    × (value ≡ cell_value (valuation_of world.values) c)
