-- Exclusive ors over sets of numbers.
use Rattle.std.specs.Prelude.{ℕ, zero, suc, Bool, false, ◌&&◌}
use Rattle.coco_model.specs.Cells.{xor}

-- the exclusive or of the values of the members of a set below n
abbrev pub parity_below : ℕ → (ℕ → Bool) → (ℕ → Bool) → Bool
parity_below zero members value = false
parity_below (suc n) members value = xor (members n && value n) (parity_below n members value)
