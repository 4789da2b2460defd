-- Signed sums with the first inputs given, and how large they are.
use Rattle.std.specs.Prelude.{ℕ, Bool, List, ◌++◌, take, ℤ, pos, neg_ℤ, ◌≤ℤ◌, ◌+ℤ◌}
use Rattle.coco_base.specs.declared.cell.Kind.{Kind}
use Rattle.coco_base.specs.declared.cell.Part.{Part}
use Rattle.coco_base.specs.declared.cell.Part.TheVariants.{Zero, One, Vary}
use Rattle.coco_model.specs.Cells.{xor, signed, output_of, Subset, sign_total, chosen_parity, allowed_inputs}

-- the signed sum of any function of lists of input values
abbrev pub sum_of : (List Bool → Bool) → Subset → List Part → ℤ
sum_of f subset parts = sign_total (λ inputs. xor (f inputs) (chosen_parity subset inputs)) (allowed_inputs parts)

-- the signed sum over the inputs from a place on, where those before it have the values given
abbrev pub partial_sum : Kind → List Bool → ℕ → Subset → List Part → ℤ
partial_sum kind given place subset parts = sum_of (λ inputs. output_of kind (take place given ++ inputs)) subset parts

-- the sum over a place, from the sums with the place at 0 and at 1
abbrev pub joined_sum : Part → Bool → ℤ → ℤ → ℤ
joined_sum Zero chosen zero one = zero
joined_sum One chosen zero one = signed chosen one
joined_sum Vary chosen zero one = zero +ℤ signed chosen one

-- from -n to n
pub record IsBounded (n : ℕ) (x : ℤ) : Type 0 where
  pub low : neg_ℤ (pos n) ≤ℤ x
  pub high : x ≤ℤ pos n
