-- What contracts see of a calm row, and when it is the calm row of a netlist between two cycles.
use Rattle.std.specs.Prelude.{◌≡◌, ℕ, zero, suc, ◌/◌, ◌%◌, Bool, true, false, cond, nat_eq, List, length, get_or, slice_get, Some, ◌↔◌}
use Rattle.coco_base.specs.declared.netlist.Flat.{Flat}
use Rattle.coco_base.specs.declared.netlist.FlatCell.{FlatCell}
use Rattle.coco_base.specs.declared.cell.Part.{Part}
use Rattle.coco_base.specs.declared.cell.Part.TheVariants.{Zero}
use Rattle.coco_model.specs.Known.{Row}
use Rattle.coco_model.specs.Calm.{IsCalm}
use Rattle.coco_model.specs.Reach.{IsLive}

-- the row that a list of parts tells; a bit behind its end is 0
abbrev pub row_of : List Part → Row
row_of parts b = get_or parts b Zero

-- the calm value of each bit, how many cells there are, and their live inputs, two cells to a byte
pub record Calmness : Type 0 where
  pub parts : List Part
  pub cells : ℕ
  pub masks : List ℕ

-- what contracts see, from the parts
abbrev pub calmness_of : List Part → ℕ → List ℕ → Calmness
calmness_of parts cells masks = record { parts = parts; cells = cells; masks = masks }

-- a mask has a place: bit j stands for place j
abbrev pub has_place : ℕ → ℕ → Bool
has_place mask zero = nat_eq (mask % 2) 1
has_place mask (suc zero) = nat_eq (mask / 2 % 2) 1
has_place mask (suc (suc zero)) = nat_eq (mask / 4 % 2) 1
has_place mask (suc (suc (suc zero))) = nat_eq (mask / 8 % 2) 1
has_place mask (suc (suc (suc (suc n)))) = false

-- the half of a byte for a cell: the lower one where its number is even
abbrev pub half : ℕ → ℕ → ℕ
half byte cell = cond (nat_eq (cell % 2) 0) (byte % 16) (byte / 16)

-- the masks have an input of a cell as live
abbrev pub live_in : List ℕ → ℕ → ℕ → Bool
live_in masks cell place = has_place (half (get_or masks (cell / 2) 0) cell) place

abbrev pub is_live : Calmness → ℕ → ℕ → Bool
is_live row cell place = live_in row.masks cell place

abbrev pub calm_of : Calmness → Row
calm_of row = row_of row.parts

-- a row has the bits and the cells of a netlist
pub record HasPlaces (flat : Flat) (row : Calmness) : Type 0 where
  pub bits : length row.parts ≡ flat.bits
  pub cells : row.cells ≡ length flat.cells

-- the inputs that a row has as live are the live ones
pub record AreLiveInputs (flat : Flat) (row : Calmness) : Type 0 where
  pub each : (number : ℕ) (cell : FlatCell) → slice_get flat.cells number ≡ Some cell → (place : ℕ)
      → (is_live row number place ≡ true) ↔ IsLive (calm_of row) cell place

-- the calm row of a netlist between two rows of what is known
pub record IsCalmRow (flat : Flat) (old now : Row) (row : Calmness) : Type 0 where
  pub places : HasPlaces flat row
  pub calm : IsCalm flat old now (calm_of row)
  pub live : AreLiveInputs flat row
