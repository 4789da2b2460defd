-- The loop that is named where cells have no level.
use Rattle.std.specs.Prelude.{◌≡◌, ℕ, suc, ◌<◌, List, [], ◌∷◌, ◌++◌, map, length, drop, get_or, slice_get, Some}
use Rattle.coco_base.specs.declared.netlist.Flat.{Flat}
use Rattle.coco_base.specs.declared.netlist.FlatCell.{FlatCell}
use Rattle.coco_base.specs.declared.netlist.Wire.TheVariants.{Bit}
use Rattle.coco_model.specs.Netlist.{wires_of, HasNoRepeat}
use Rattle.gate_graph.specs.Drivers.{IsCellOutput, driver_name}
use Rattle.gate_graph.specs.Levels.{HasLevel, LacksLevel}
use Rattle.gate_graph.specs.declared.driver.Driver.TheVariants.{Cell}

-- the first input without a level of a cell that is given by its number, and the cell that drives it
pub record GoesTo (flat : Flat) (from to : ℕ) : Type 0 where
  pub cell : FlatCell
  pub at : slice_get flat.cells from ≡ Some cell
  pub place : ℕ
  pub bit : ℕ
  pub input : slice_get (wires_of cell) place ≡ Some (Bit bit)
  pub lacks : LacksLevel flat bit
  pub first : (k b : ℕ) → k < place → slice_get (wires_of cell) k ≡ Some (Bit b) → (level : ℕ) × HasLevel flat b level
  pub driven : IsCellOutput flat to bit

-- cells each of which goes to the next
abbrev pub IsWalk : Flat → List ℕ → Type 0
IsWalk flat cells = (k : ℕ) → suc k < length cells → GoesTo flat (get_or cells k 0) (get_or cells (suc k) 0)

-- the least cell whose output has no level
pub record IsLeastWithoutLevel (flat : Flat) (number : ℕ) : Type 0 where
  pub cell : FlatCell
  pub at : slice_get flat.cells number ≡ Some cell
  pub lacks : LacksLevel flat cell.output
  pub least : (k : ℕ) (c : FlatCell) → k < number → slice_get flat.cells k ≡ Some c → (level : ℕ) × HasLevel flat c.output level

-- the names of cells, from a place on
abbrev pub names_from : Flat → List ℕ → ℕ → List (List ℕ)
names_from flat cells place = map (λ i. driver_name flat (Cell i)) (drop place cells)

-- the names of a loop: a walk starts at the least cell without a level, and comes back to the first cell that is met again;
-- the loop is the part from there on
pub record IsLoop (flat : Flat) (names : List (List ℕ)) : Type 0 where
  pub path : List ℕ
  pub entry : ℕ
  pub inside : entry < length path
  pub start : IsLeastWithoutLevel flat (get_or path 0 0)
  pub walk : IsWalk flat (path ++ get_or path entry 0 ∷ [])
  pub once : HasNoRepeat path
  pub named : names ≡ names_from flat path entry
