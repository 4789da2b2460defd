-- Rows of parts on the way to what the inputs of cells force.
use Rattle.std.specs.Prelude.{◌≡◌, ℕ, ◌<◌, List, get_or, slice_get, Some}
use Rattle.coco_base.specs.declared.netlist.Flat.{Flat}
use Rattle.coco_base.specs.declared.netlist.FlatCell.{FlatCell}
use Rattle.coco_base.specs.declared.cell.Part.{Part}
use Rattle.coco_model.specs.Cells.{IsForced}
use Rattle.coco_model.specs.Netlist.{IsCellBit}
use Rattle.coco_model.specs.Known.{cell_parts}
use Rattle.gate_graph.specs.Graphs.{Gates}
use Rattle.calm_reach.specs.CalmRows.{row_of}

-- the output of each of the first cells of an order has what the cell's inputs force
pub record AreForcedTo (gates : Gates) (count : ℕ) (parts : List Part) : Type 0 where
  pub each : (j : ℕ) → j < count → (cell : FlatCell)
      → slice_get gates.flat.cells (get_or gates.order j 0) ≡ Some cell
      → IsForced cell.kind (cell_parts (row_of parts) cell) (row_of parts cell.output)

-- two rows tell the same of the bits that no cell drives
abbrev pub AgreeOnLeaves : Flat → List Part → List Part → Type 0
AgreeOnLeaves flat old new = (b : ℕ) → (IsCellBit flat b → ⊥) → row_of new b ≡ row_of old b
