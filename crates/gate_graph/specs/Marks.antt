-- Marks of cells while levels are given, and what a walk does at a cell.
use Rattle.std.specs.Prelude.{◌≡◌, ◌≢◌, ℕ, suc, ◌+◌, ◌-◌, ◌<◌, ◌≤◌, Bool, true, false, List, [], ◌∷◌, ◌++◌, map, length, get_or, slice_get, count_by, Option, Some, None}
use Rattle.coco_base.specs.declared.netlist.Flat.{Flat}
use Rattle.coco_base.specs.declared.netlist.FlatCell.{FlatCell}
use Rattle.coco_base.specs.declared.netlist.Wire.{Wire}
use Rattle.coco_base.specs.declared.netlist.Wire.TheVariants.{Const, Bit}
use Rattle.coco_model.specs.Netlist.{wires_of, on_wire}
use Rattle.gate_graph.specs.declared.driver.Driver.{Driver}
use Rattle.gate_graph.specs.declared.driver.Driver.TheVariants.{Port, Cell, Flop, Nothing}
use Rattle.gate_graph.specs.declared.mark.Mark.{Mark}
use Rattle.gate_graph.specs.declared.mark.Mark.TheVariants.{New, Walked, Level}
use Rattle.gate_graph.specs.declared.mark.Step.{Step}
use Rattle.gate_graph.specs.declared.mark.ClosedPath.{ClosedPath}
use Rattle.gate_graph.specs.declared.mark.Step.TheVariants.{Down, Closed, Up}
use Rattle.gate_graph.specs.Drivers.{IsCellOutput}
use Rattle.gate_graph.specs.Levels.{HasLevel}

-- the mark of a cell, by its number
abbrev pub mark_of : List Mark → ℕ → Mark
mark_of marks number = get_or marks number New

abbrev pub is_new : Mark → Bool
is_new New = true
is_new Walked = false
is_new (Level l) = false

abbrev pub has_level : Mark → Bool
has_level New = false
has_level Walked = false
has_level (Level l) = true

-- the level of a marked cell, and 0 where it has none yet
abbrev pub mark_level : Mark → ℕ
mark_level New = 0
mark_level Walked = 0
mark_level (Level l) = l

-- the level of a bit by its driver
abbrev pub driver_level : List Mark → Driver → ℕ
driver_level marks (Port p) = 0
driver_level marks (Cell i) = mark_level (mark_of marks i)
driver_level marks (Flop f) = 0
driver_level marks Nothing = 0

abbrev pub bit_level : List Driver → List Mark → ℕ → ℕ
bit_level drivers marks b = driver_level marks (get_or drivers b Nothing)

-- the cell of a number has a level
pub record HasCellLevel (flat : Flat) (number level : ℕ) : Type 0 where
  pub cell : FlatCell
  pub at : slice_get flat.cells number ≡ Some cell
  pub level_is : HasLevel flat cell.output level

-- the marks of all cells tell true levels, none greater than how many cells have one
pub record AreMarks (flat : Flat) (marks : List Mark) : Type 0 where
  pub as_long : length marks ≡ length flat.cells
  pub levels : (i l : ℕ) → mark_of marks i ≡ Level l → HasCellLevel flat i l
  pub bound : (i l : ℕ) → mark_of marks i ≡ Level l → l ≤ count_by has_level marks

-- an input of a cell at which all before have levels, and the cell that drives it
pub record LeadsOn (flat : Flat) (from to : ℕ) : Type 0 where
  pub cell : FlatCell
  pub at : slice_get flat.cells from ≡ Some cell
  pub place : ℕ
  pub bit : ℕ
  pub input : slice_get (wires_of cell) place ≡ Some (Bit bit)
  pub first : (k b : ℕ) → k < place → slice_get (wires_of cell) k ≡ Some (Bit b) → (level : ℕ) × HasLevel flat b level
  pub driven : IsCellOutput flat to bit

-- what the walk does at a cell: down to a new cell, to one that it has met, or up again with the cell's level
abbrev pub IsStep : Flat → List Mark → ℕ → Step → Type 0
IsStep flat marks from (Down to) = LeadsOn flat from to × (mark_of marks to ≡ New) × (to < length marks)
IsStep flat marks from (Closed to) = LeadsOn flat from to × (mark_of marks to ≡ Walked)
IsStep flat marks from (Up level) = HasCellLevel flat from level × (level ≤ suc (count_by has_level marks))

-- what an input shows
abbrev pub IsInputStep : Flat → List Driver → List Mark → Wire → Step → Type 0
IsInputStep flat drivers marks (Const b) step = step ≡ Up 0
IsInputStep flat drivers marks (Bit n) (Down to) = IsCellOutput flat to n × (mark_of marks to ≡ New) × (to < length marks)
IsInputStep flat drivers marks (Bit n) (Closed to) = IsCellOutput flat to n × (mark_of marks to ≡ Walked)
IsInputStep flat drivers marks (Bit n) (Up level) =
    HasLevel flat n level × (level ≡ bit_level drivers marks n) × (level ≤ count_by has_level marks)

-- the cells of a walk, each at most once
pub record IsPath (flat : Flat) (path : List ℕ) : Type 0 where
  pub once : (j k : ℕ) → j < k → k < length path → get_or path j 0 ≢ get_or path k 0
  pub steps : (k : ℕ) → suc k < length path → LeadsOn flat (get_or path k 0) (get_or path (suc k) 0)

-- the cells of a walk that has not come back are those that are marked as walked
pub record IsOpenPath (flat : Flat) (marks : List Mark) (path : List ℕ) : Type 0 where
  pub path_is : IsPath flat path
  pub walked : (k : ℕ) → k < length path → mark_of marks (get_or path k 0) ≡ Walked
  pub all : (i : ℕ) → mark_of marks i ≡ Walked → (k : ℕ) × (k < length path) × (get_or path k 0 ≡ i)

-- a walk that came back to the cell at a place
pub record IsClosedPath (flat : Flat) (start : ℕ) (path : List ℕ) (entry : ℕ) : Type 0 where
  pub path_is : IsPath flat path
  pub first : get_or path 0 0 ≡ start
  pub inside : entry < length path
  pub back : LeadsOn flat (get_or path (length path - 1) 0) (get_or path entry 0)

-- no walk is under way
abbrev pub AreLeft : List Mark → Type 0
AreLeft marks = (i : ℕ) → mark_of marks i ≢ Walked

-- cells that have a level keep having one
abbrev pub KeepLevels : List Mark → List Mark → Type 0
KeepLevels old new = (i : ℕ) → has_level (mark_of old i) ≡ true → has_level (mark_of new i) ≡ true

-- the marks after a walk from a cell that left all cells that it met
pub record AreWalkedFrom (flat : Flat) (start : ℕ) (old new : List Mark) : Type 0 where
  pub marks : AreMarks flat new
  pub left : AreLeft new
  pub kept : KeepLevels old new
  pub start_has : has_level (mark_of new start) ≡ true

-- what a walk from a cell comes to
abbrev pub IsWalkEnd : Flat → ℕ → List Mark → List Mark → Option ClosedPath → Type 0
IsWalkEnd flat start old new None = AreWalkedFrom flat start old new
IsWalkEnd flat start old new (Some closed) = IsClosedPath flat start closed.path.items closed.entry

-- for each bit its level
pub record AreBitLevels (flat : Flat) (levels : List ℕ) : Type 0 where
  pub as_long : length levels ≡ flat.bits
  pub each : (bit : ℕ) → HasLevel flat bit (get_or levels bit 0)
