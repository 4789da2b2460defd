-- What keeps still while a cycle settles.
use Rattle.std.specs.Prelude.{◌≡◌, ℕ}
use Rattle.coco_base.specs.declared.netlist.Flat.{Flat}
use Rattle.coco_base.specs.declared.cell.Part.{Part}
use Rattle.coco_base.specs.declared.cell.Part.TheVariants.{Zero, One, Vary}
use Rattle.coco_model.specs.Netlist.{IsCellBit}
use Rattle.coco_model.specs.Known.{Row, IsForcedRow}

-- the part that is known in both cycles, if it is one
abbrev pub both : Part → Part → Part
both Zero Zero = Zero
both One One = One
both Zero One = Vary
both Zero Vary = Vary
both One Zero = Vary
both One Vary = Vary
both Vary q = Vary

-- what is calm between two cycles, old and now: a leaf that is known with one value in both, and a cell's output that
-- calm inputs force
pub record IsCalm (flat : Flat) (old now calm : Row) : Type 0 where
  pub leaves : (b : ℕ) → (IsCellBit flat b → ⊥) → calm b ≡ both (old b) (now b)
  pub forced : IsForcedRow flat calm
