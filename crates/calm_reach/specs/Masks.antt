-- The masks of cells and of pairs of cells, for the live inputs of a row of parts.
use Rattle.std.specs.Prelude.{◌≡◌, ℕ, ◌+◌, ◌*◌, ◌/◌, ◌%◌, ◌<◌, true, List, ◌↔◌, slice_get, Some}
use Rattle.coco_base.specs.declared.netlist.FlatCell.{FlatCell}
use Rattle.coco_model.specs.Known.{Row}
use Rattle.coco_model.specs.Reach.{IsLive}
use Rattle.calm_reach.specs.CalmRows.{has_place}

-- the mask of a cell's live inputs
pub record IsLiveMask (calm : Row) (cell : FlatCell) (mask : ℕ) : Type 0 where
  pub small : mask < 16
  pub each : (place : ℕ) → (has_place mask place ≡ true) ↔ IsLive calm cell place

-- the mask of the cell of a number, if there is one
pub record IsMaskAt (calm : Row) (cells : List FlatCell) (number mask : ℕ) : Type 0 where
  pub small : mask < 16
  pub each : (cell : FlatCell) → slice_get cells number ≡ Some cell → IsLiveMask calm cell mask

-- a byte has the masks of a pair of cells
pub record IsPairAt (calm : Row) (cells : List FlatCell) (pair byte : ℕ) : Type 0 where
  pub even : IsMaskAt calm cells (2 * pair) (byte % 16)
  pub odd : IsMaskAt calm cells (2 * pair + 1) (byte / 16)
