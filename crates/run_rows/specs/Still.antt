-- What keeps still in every cycle of a run.
use Rattle.std.specs.Prelude.{◌≡◌, ℕ, Option, Some}
use Rattle.coco_base.specs.declared.cell.Part.TheVariants.{Zero}
use Rattle.coco_base.specs.declared.netlist.Flat.{Flat}
use Rattle.coco_model.specs.Netlist.{IsUndriven}
use Rattle.calm_reach.specs.CalmRows.{Calmness, calm_of}

-- in a cycle what nothing drives keeps still, and so does the clock
pub record KeepsStill (flat : Flat) (clock : Option ℕ) (row : Calmness) : Type 0 where
  pub undriven : (b : ℕ) → IsUndriven flat b → calm_of row b ≡ Zero
  pub clock_bit : (b : ℕ) → clock ≡ Some b → calm_of row b ≡ Zero
