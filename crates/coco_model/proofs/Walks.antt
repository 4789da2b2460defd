-- Walks against the wires, by their first step.
use Rattle.std.proofs.Common.{◌≡◌, ℕ, ◌⊎◌, inl, inr, false, get_or, refl, subst, sym}
use Rattle.std.specs.Prelude.{Contains}
use Rattle.coco_base.specs.declared.netlist.Flat.{Flat}
use Rattle.coco_base.specs.declared.netlist.FlatCell.{FlatCell}
use Rattle.coco_base.specs.declared.netlist.Wire.TheVariants.{Const, Bit}
use Rattle.coco_base.specs.declared.cell.Part.TheVariants.{Vary}
use Rattle.coco_model.specs.Netlist.{wires_of, IsCellBit}
use Rattle.coco_model.specs.Known.{Row}
use Rattle.coco_model.specs.Reach.{IsLive, Reaches}
use Rattle.coco_model.specs.Reach.Reaches.{here, through}
use Rattle.coco_model.proofs.Basics.{any_from_member}

-- the first step of a walk from the output of a cell
pub record IsStep (flat : Flat) (calm : Row) (leaf bit : ℕ) : Type 0 where
  pub cell : FlatCell
  pub listed : Contains flat.cells cell
  pub drives : cell.output ≡ bit
  pub varies : calm bit ≡ Vary
  pub place : ℕ
  pub live : IsLive calm cell place
  pub from : ℕ
  pub wired : get_or (wires_of cell) place (Const false) ≡ Bit from
  pub rest : Reaches flat calm leaf from

-- a walk of no steps
pub record IsAtLeaf (flat : Flat) (calm : Row) (leaf bit : ℕ) : Type 0 where
  pub same : leaf ≡ bit
  pub no_cell : IsCellBit flat leaf → ⊥
  pub varies : calm leaf ≡ Vary

pub walk_cases : (flat : Flat) (calm : Row) (leaf bit : ℕ) → Reaches flat calm leaf bit
    → IsAtLeaf flat calm leaf bit ⊎ IsStep flat calm leaf bit
walk_cases flat calm leaf bit (here none varies) = inl (record { same = refl; no_cell = none; varies = varies })
walk_cases flat calm leaf bit (through b cell place from listed drives varies live wired rest) =
    inr (record { cell = cell; listed = listed; drives = drives; varies = varies; place = place; live = live; from = from; wired = wired; rest = rest })

-- from a cell's output a walk takes a step
pub step_from_cell : (flat : Flat) (calm : Row) (leaf bit : ℕ) → IsCellBit flat bit → Reaches flat calm leaf bit → IsStep flat calm leaf bit
step_from_cell flat calm leaf bit is_cell walk = go (walk_cases flat calm leaf bit walk)
  where
    go : IsAtLeaf flat calm leaf bit ⊎ IsStep flat calm leaf bit → IsStep flat calm leaf bit
    go (inl a) = absurd (a.no_cell (subst (IsCellBit flat) (sym a.same) is_cell))
    go (inr s) = s

-- from another bit it takes none
pub same_leaf : (flat : Flat) (calm : Row) (leaf bit : ℕ) → (IsCellBit flat bit → ⊥) → Reaches flat calm leaf bit → leaf ≡ bit
same_leaf flat calm leaf bit no_cell walk = go (walk_cases flat calm leaf bit walk)
  where
    go : IsAtLeaf flat calm leaf bit ⊎ IsStep flat calm leaf bit → leaf ≡ bit
    go (inl a) = a.same
    go (inr s) = absurd (no_cell (any_from_member (λ (c : FlatCell). c.output ≡ bit) flat.cells s.cell s.listed s.drives))
