-- The ranks of bits: by level, and in one level by number.
use Rattle.std.specs.Prelude.{◌≡◌, ℕ, ◌<◌, List, [], map, length, get_or, Contains, ◌⊎◌}
use Rattle.coco_base.specs.declared.netlist.Flat.{Flat}
use Rattle.coco_base.specs.declared.netlist.FlatCell.{FlatCell}

-- a bit goes before another: by level, and in one level by number
abbrev pub GoesBefore : (ℕ → ℕ) → ℕ → ℕ → Type 0
GoesBefore level a b = (level a < level b) ⊎ ((level a ≡ level b) × (a < b))

-- the ranks of all bits: as many numbers as bits, in the order of levels and numbers; so each below that number stands once
pub record AreRanks (flat : Flat) (level : ℕ → ℕ) (ranks : List ℕ) : Type 0 where
  pub as_long : length ranks ≡ flat.bits
  pub below : (b : ℕ) → b < flat.bits → get_or ranks b 0 < flat.bits
  pub ordered : (a b : ℕ) → a < flat.bits → b < flat.bits → GoesBefore level a b → get_or ranks a 0 < get_or ranks b 0

-- the rank of the output of a cell, by the cell's number
abbrev pub output_rank : Flat → List ℕ → ℕ → ℕ
output_rank flat ranks number = get_or ranks (get_or (map (λ (c : FlatCell). c.output) flat.cells) number 0) 0

-- the numbers of all cells, by the ranks of their outputs
pub record IsRankOrder (flat : Flat) (ranks order : List ℕ) : Type 0 where
  pub numbers : (number : ℕ) → Contains order number → number < length flat.cells
  pub all : (number : ℕ) → number < length flat.cells → Contains order number
  pub ascending : (j k : ℕ) → j < k → k < length order
      → output_rank flat ranks (get_or order j 0) < output_rank flat ranks (get_or order k 0)
