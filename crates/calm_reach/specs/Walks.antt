-- Walks against the wires through inputs that a row has as live.
use Rattle.std.specs.Prelude.{◌≡◌, ℕ, ◌<◌, true, false, List, get_or, slice_get, Some, Contains, ◌↔◌, ◌⊎◌}
use Rattle.std.specs.List.Sorted.{IsStrictlyIncreasing}
use Rattle.coco_base.specs.declared.netlist.Flat.{Flat}
use Rattle.coco_base.specs.declared.netlist.FlatCell.{FlatCell}
use Rattle.coco_base.specs.declared.netlist.Wire.{Wire}
use Rattle.coco_base.specs.declared.netlist.Wire.TheVariants.{Const, Bit}
use Rattle.coco_base.specs.declared.cell.Part.TheVariants.{Vary}
use Rattle.coco_model.specs.Netlist.{wires_of, IsCellBit}
use Rattle.coco_model.specs.Reach.{Reaches}
use Rattle.gate_graph.specs.declared.driver.Driver.{Driver}
use Rattle.gate_graph.specs.declared.driver.Driver.TheVariants.{Port, Cell, Flop, Nothing}
use Rattle.calm_reach.specs.CalmRows.{Calmness, calm_of, is_live, AreLiveInputs}

-- a cell has a bit at an input that the row has as live
pub record HasLiveBit (row : Calmness) (number : ℕ) (cell : FlatCell) (from : ℕ) : Type 0 where
  pub place : ℕ
  pub live : is_live row number place ≡ true
  pub wire : get_or (wires_of cell) place (Const false) ≡ Bit from

-- a bit that is not calm is the output of a cell that reads another at an input that the row has as live
pub record Feeds (flat : Flat) (row : Calmness) (from bit : ℕ) : Type 0 where
  pub number : ℕ
  pub cell : FlatCell
  pub at : slice_get flat.cells number ≡ Some cell
  pub drives : cell.output ≡ bit
  pub varies : calm_of row bit ≡ Vary
  pub input : HasLiveBit row number cell from

-- a bit that no cell drives and that is not calm
pub record IsLeafBit (flat : Flat) (row : Calmness) (bit : ℕ) : Type 0 where
  pub no_cell : IsCellBit flat bit → ⊥
  pub varies : calm_of row bit ≡ Vary

-- a walk from a bit to a leaf
pub data LeadsTo (flat : Flat) (row : Calmness) (leaf : ℕ) : ℕ → Type 0 where
  ends : IsLeafBit flat row leaf → LeadsTo flat row leaf leaf
  goes : (bit from : ℕ) → Feeds flat row from bit → LeadsTo flat row leaf from → LeadsTo flat row leaf bit

-- the leaves to which walks from a bit lead, in ascending order
pub record AreLeavesOf (flat : Flat) (row : Calmness) (bit : ℕ) (leaves : List ℕ) : Type 0 where
  pub ascending : IsStrictlyIncreasing leaves
  pub each : (leaf : ℕ) → Contains leaves leaf ↔ LeadsTo flat row leaf bit

-- the leaves that a bit reaches, where the row has the live inputs of the netlist
abbrev pub AreReachedLeaves : Flat → Calmness → ℕ → List ℕ → Type 0
AreReachedLeaves flat row bit leaves =
    AreLiveInputs flat row → (leaf : ℕ) → Contains leaves leaf ↔ Reaches flat (calm_of row) leaf bit

-- the bits on walks from a bit
pub data IsOnWalk (flat : Flat) (row : Calmness) (start : ℕ) : ℕ → Type 0 where
  starts : IsOnWalk flat row start start
  follows : (bit from : ℕ) → Feeds flat row from bit → IsOnWalk flat row start bit → IsOnWalk flat row start from

-- all bits on walks from a bit
abbrev pub AreWalked : Flat → Calmness → ℕ → List ℕ → Type 0
AreWalked flat row start bits = (b : ℕ) → Contains bits b ↔ IsOnWalk flat row start b

-- the bits met so far, of which so many have been looked at
pub record IsPartWalk (flat : Flat) (row : Calmness) (start : ℕ) (bits : List ℕ) (looked : ℕ) : Type 0 where
  pub first : Contains bits start
  pub sound : (b : ℕ) → Contains bits b → IsOnWalk flat row start b
  pub below : (b : ℕ) → Contains bits b → b < flat.bits
  pub closed : (k b : ℕ) → k < looked → slice_get bits k ≡ Some b → (from : ℕ) → Feeds flat row from b
      → Contains bits from

-- the bits after a look at one: those that were there keep their places
pub record AddsFeeding (flat : Flat) (row : Calmness) (bit : ℕ) (old new : List ℕ) : Type 0 where
  pub kept : (k b : ℕ) → slice_get old k ≡ Some b → slice_get new k ≡ Some b
  pub sound : (b : ℕ) → Contains new b → Contains old b ⊎ Feeds flat row b bit
  pub all : (from : ℕ) → Feeds flat row from bit → Contains new from

-- the bits after one was added, if it was not there: those that were there keep their places
pub record AddsBit (bit : ℕ) (old new : List ℕ) : Type 0 where
  pub kept : (k b : ℕ) → slice_get old k ≡ Some b → slice_get new k ≡ Some b
  pub sound : (b : ℕ) → Contains new b → Contains old b ⊎ (b ≡ bit)
  pub has : Contains new bit

-- of bits, those that are leaves, in ascending order
pub record AreLeavesAmong (flat : Flat) (row : Calmness) (bits leaves : List ℕ) : Type 0 where
  pub ascending : IsStrictlyIncreasing leaves
  pub each : (b : ℕ) → Contains leaves b ↔ (Contains bits b × IsLeafBit flat row b)

-- the bits after a wire was added: its bit, if it has one
abbrev pub AddsWire : Wire → List ℕ → List ℕ → Type 0
AddsWire (Const value) old new = new ≡ old
AddsWire (Bit from) old new = AddsBit from old new

-- the bits after those at the live inputs of the cell of a number were added
pub record AddsInputs (flat : Flat) (row : Calmness) (number : ℕ) (old new : List ℕ) : Type 0 where
  pub cell : FlatCell
  pub at : slice_get flat.cells number ≡ Some cell
  pub kept : (k b : ℕ) → slice_get old k ≡ Some b → slice_get new k ≡ Some b
  pub sound : (b : ℕ) → Contains new b → Contains old b ⊎ HasLiveBit row number cell b
  pub all : (b : ℕ) → HasLiveBit row number cell b → Contains new b

-- a cell is what drives
abbrev pub IsCellDriver : Driver → Type 0
IsCellDriver (Port number) = ⊥
IsCellDriver (Cell number) = Unit {0}
IsCellDriver (Flop number) = ⊥
IsCellDriver Nothing = ⊥
