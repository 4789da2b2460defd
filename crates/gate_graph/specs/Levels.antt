-- The levels of bits, given step by step.
use Rattle.std.specs.Prelude.{ℕ, suc, max, List, [], ◌∷◌, Contains}
use Rattle.coco_base.specs.declared.netlist.Flat.{Flat}
use Rattle.coco_base.specs.declared.netlist.FlatCell.{FlatCell}
use Rattle.coco_base.specs.declared.netlist.Wire.TheVariants.{Bit}
use Rattle.coco_model.specs.Netlist.{wires_of, bits_in, IsCellBit}

-- the greatest level among bits, and 0 where there are none
abbrev pub greatest : (ℕ → ℕ) → List ℕ → ℕ
greatest level [] = 0
greatest level (b ∷ bs) = max (level b) (greatest level bs)

-- a bit has a level: 0 where no cell drives it; a cell's output has one once all bits that the cell reads have one, and it
-- is one more than the greatest of these
pub data HasLevel (flat : Flat) : ℕ → ℕ → Type 0 where
  leaf : (bit : ℕ) → (IsCellBit flat bit → ⊥) → HasLevel flat bit 0
  output : (cell : FlatCell) (level : ℕ → ℕ) → Contains flat.cells cell
      → ((bit : ℕ) → Contains (wires_of cell) (Bit bit) → HasLevel flat bit (level bit))
      → HasLevel flat cell.output (suc (greatest level (bits_in (wires_of cell))))

-- the levels of all bits
abbrev pub AreLevels : Flat → (ℕ → ℕ) → Type 0
AreLevels flat level = (bit : ℕ) → HasLevel flat bit (level bit)

-- a bit never gets a level
abbrev pub LacksLevel : Flat → ℕ → Type 0
LacksLevel flat bit = (level : ℕ) → HasLevel flat bit level → ⊥
