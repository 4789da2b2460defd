-- The row of one cycle, and those of the cycles so far.
use Rattle.std.specs.Prelude.{◌≡◌, ℕ, suc, List, length, slice_get, Some}
use Rattle.coco_base.specs.declared.netlist.Flat.{Flat}
use Rattle.coco_base.specs.declared.setup.Setup.{Setup}
use Rattle.coco_model.specs.Known.{Row, IsKnown}
use Rattle.coco_model.specs.Run.{before}
use Rattle.calm_reach.specs.CalmRows.{Calmness, HasPlaces, IsCalmRow}

-- the calm row of a cycle, whatever is known
pub record IsRowIn (flat : Flat) (setup : Setup) (t : ℕ) (calm : Calmness) : Type 0 where
  pub places : HasPlaces flat calm
  pub between : (row : ℕ → Row) (word : ℕ → ℕ → Row) → IsKnown flat setup (suc t) row word
      → IsCalmRow flat (row (before t)) (row t) calm

-- the calm rows of the first cycles
pub record AreFirstRows (flat : Flat) (setup : Setup) (count : ℕ) (rows : List Calmness) : Type 0 where
  pub as_long : length rows ≡ count
  pub each : (t : ℕ) (calm : Calmness) → slice_get rows t ≡ Some calm → IsRowIn flat setup t calm
