-- The settled valuation of given leaves, as rows of bits.
use Rattle.std.specs.Prelude.{◌≡◌, ℕ, Bool, false, List, map, get_or, ◌⊎◌}
use Rattle.coco_base.specs.declared.netlist.Flat.{Flat}
use Rattle.coco_model.specs.Netlist.{Valuation, IsSettled, IsFlopBit, IsInputBit}
use Rattle.coco_model.specs.Events.{after_events}
use Rattle.coco_model.specs.Events.Event.{cell}
use Rattle.gate_graph.specs.declared.driver.Driver.{Driver}
use Rattle.gate_graph.specs.declared.driver.Driver.TheVariants.{Port, Cell, Flop, Nothing}

-- the valuation that a row of bits tells
abbrev pub valuation_of : List Bool → Valuation
valuation_of row bit = get_or row bit false

-- a valuation is settled, and input ports and flops drive their bits with the values of the leaves
pub record IsSettledBy (flat : Flat) (leaves v : Valuation) : Type 0 where
  pub settled : IsSettled flat v
  pub agrees : (bit : ℕ) → IsFlopBit flat bit ⊎ IsInputBit flat bit → v bit ≡ leaves bit

-- a row with the values of the leaves at the bits that input ports and flops drive, and 0 at all others
abbrev pub leaf_value : Driver → Bool → Bool
leaf_value (Port p) value = value
leaf_value (Flop f) value = value
leaf_value (Cell c) value = false
leaf_value Nothing value = false

-- a row after the events of cells, in their order, is another
abbrev pub IsAfterCells : Flat → List ℕ → List Bool → List Bool → Type 0
IsAfterCells flat order old new =
    (leaves : Valuation) (bit : ℕ) → valuation_of new bit ≡ after_events flat leaves (valuation_of old) (map cell order) bit
