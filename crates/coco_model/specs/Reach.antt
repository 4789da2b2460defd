-- The leaves that a probe reaches through live inputs.
use Rattle.std.specs.Prelude.{◌≡◌, ℕ, ◌<◌, false, List, get_or, Contains, ◌↔◌}
use Rattle.std.specs.List.Sorted.{IsStrictlyIncreasing}
use Rattle.coco_base.specs.declared.netlist.Flat.{Flat}
use Rattle.coco_base.specs.declared.netlist.FlatCell.{FlatCell}
use Rattle.coco_base.specs.declared.netlist.Wire.TheVariants.{Const, Bit}
use Rattle.coco_base.specs.declared.cell.Part.TheVariants.{Vary}
use Rattle.coco_base.specs.declared.setup.Setup.{Setup}
use Rattle.coco_model.specs.Cells.{IsLiveInput}
use Rattle.coco_model.specs.Netlist.{wires_of, IsCellBit}
use Rattle.coco_model.specs.Run.{before}
use Rattle.coco_model.specs.Known.{Row, cell_parts, IsKnown}
use Rattle.coco_model.specs.Calm.{IsCalm}

-- which leaves a probe reaches, by its cycle and its bit
abbrev pub Reach : Type 0
Reach = ℕ → ℕ → List ℕ

-- a cell's input at a place is live: it is not calm, and the output changes with it for some value of the others that
-- are not calm
abbrev pub IsLive : Row → FlatCell → ℕ → Type 0
IsLive calm cell place = IsLiveInput cell.kind (cell_parts calm cell) place

-- a walk against the wires, through live inputs, from a bit to a leaf, where no bit is calm
pub data Reaches (flat : Flat) (calm : Row) (leaf : ℕ) : ℕ → Type 0 where
  here : (IsCellBit flat leaf → ⊥) → calm leaf ≡ Vary → Reaches flat calm leaf leaf
  through : (bit : ℕ) (cell : FlatCell) (place from : ℕ) → Contains flat.cells cell → cell.output ≡ bit
      → calm bit ≡ Vary
      → IsLive calm cell place → get_or (wires_of cell) place (Const false) ≡ Bit from → Reaches flat calm leaf from
      → Reaches flat calm leaf bit

-- the leaves that the bits of one cycle reach, in ascending order
abbrev pub IsReachedRow : Flat → Row → (ℕ → List ℕ) → Type 0
IsReachedRow flat calm reached =
    (b : ℕ) → b < flat.bits
    → IsStrictlyIncreasing (reached b) × ((leaf : ℕ) → Contains (reached b) leaf ↔ Reaches flat calm leaf b)

-- what a probe reaches in each cycle of a run: only calm bits block a path
pub record IsReach (flat : Flat) (setup : Setup) (cycles : ℕ) (reach : Reach) : Type 0 where
  pub row : ℕ → Row
  pub word : ℕ → ℕ → Row
  pub calm : ℕ → Row
  pub known : IsKnown flat setup cycles row word
  pub still : (t : ℕ) → t < cycles → IsCalm flat (row (before t)) (row t) (calm t)
  pub reached : (t : ℕ) → t < cycles → IsReachedRow flat (calm t) (reach t)
