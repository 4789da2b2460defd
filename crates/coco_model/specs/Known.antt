-- What is known of each bit in each cycle.
use Rattle.std.specs.Prelude.{ℕ, ◌<◌, Bool, true, false, List, map, Contains}
use Rattle.coco_base.specs.declared.netlist.Flat.{Flat}
use Rattle.coco_base.specs.declared.netlist.FlatCell.{FlatCell}
use Rattle.coco_base.specs.declared.netlist.Wire.{Wire}
use Rattle.coco_base.specs.declared.cell.Part.{Part}
use Rattle.coco_base.specs.declared.cell.Part.TheVariants.{Zero, One, Vary}
use Rattle.coco_base.specs.declared.setup.Setup.{Setup}
use Rattle.coco_model.specs.Cells.{IsForced}
use Rattle.coco_model.specs.Netlist.{Valuation, wires_of, on_wire}
use Rattle.coco_model.specs.Carried.{States, IsCarried}

-- what is known of every bit: 0, 1, or that it may vary (ternary simulation)
abbrev pub Row : Type 0
Row = ℕ → Part

abbrev pub part_of : Bool → Part
part_of false = Zero
part_of true = One

abbrev pub wire_part : Row → Wire → Part
wire_part row w = on_wire part_of row w

-- what is known of a cell's inputs
abbrev pub cell_parts : Row → FlatCell → List Part
cell_parts row cell = map (wire_part row) (wires_of cell)

-- what is known of each cell's output is what the known inputs force
pub record IsForcedRow (flat : Flat) (row : Row) : Type 0 where
  pub cells : (c : FlatCell) → Contains flat.cells c → IsForced c.kind (cell_parts row c) (row c.output)

abbrev pub is_one : Part → Bool
is_one Zero = false
is_one One = true
is_one Vary = false

-- the bits that are known as 1
abbrev pub ones : Row → Valuation
ones row b = is_one (row b)

-- what is known as states: a constant is known, and a label is not
abbrev pub parts : States Part
parts = record { constant = part_of; label = λ _. Vary }

-- what is known of every bit in each cycle, and of every bit of every memory word; the memory ports do what is known of
-- them
pub record IsKnown (flat : Flat) (setup : Setup) (cycles : ℕ) (row : ℕ → Row) (word : ℕ → ℕ → Row) : Type 0 where
  pub forced : (t : ℕ) → t < cycles → IsForcedRow flat (row t)
  pub carried : IsCarried parts flat setup cycles (λ t. ones (row t)) row word
