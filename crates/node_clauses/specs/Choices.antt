-- The choices of a gate, as numbers: bit p of a number tells whether the set of places has place p.
use Rattle.std.specs.Prelude.{ℕ, ◌/◌, ◌%◌, ◌^◌, Bool, true, false, not, ◌&&◌, ◌||◌, nat_eq, nat_lt, List, [], ◌∷◌, get_or, filter, pos}
use Rattle.std.specs.Ordering.{int_eq}
use Rattle.std.specs.List.{list_all, range_with_len}
use Rattle.coco_base.specs.declared.cell.Kind.{Kind}
use Rattle.coco_base.specs.declared.cell.Part.{Part}
use Rattle.coco_base.specs.declared.cell.Part.TheVariants.{Zero, One, Vary}
use Rattle.coco_model.specs.Cells.{input_count, input_places, subset_of_number, signed_sum}

-- the places of a gate, and the numbers of the sets of them
abbrev pub four_places : List ℕ
four_places = 0 ∷ 1 ∷ 2 ∷ 3 ∷ []

abbrev pub set_numbers : List ℕ
set_numbers = range_with_len 0 16

abbrev pub has_place : ℕ → ℕ → Bool
has_place place number = nat_eq (number / 2 ^ place % 2) 1

abbrev pub varies : Part → Bool
varies Zero = false
varies One = false
varies Vary = true

-- each place of a set varies
abbrev pub varies_at_places : List Part → ℕ → Bool
varies_at_places parts number =
    list_all (λ place. not (has_place place number) || varies (get_or parts place Zero)) four_places

-- each place of a set is an input that varies
abbrev pub has_varying_places : Kind → List Part → ℕ → Bool
has_varying_places kind parts number = nat_lt number (2 ^ input_count kind) && varies_at_places parts number

-- a number is a choice for a gate: its places vary, and its signed sum is not 0
abbrev pub is_choice : Kind → List Part → ℕ → Bool
is_choice kind parts number =
    has_varying_places kind parts number
    && not (int_eq (signed_sum kind (input_places kind parts) (subset_of_number (input_count kind) number)) (pos 0))

-- the choices for a gate, in ascending order
abbrev pub choices : Kind → List Part → List ℕ
choices kind parts = filter (is_choice kind parts) set_numbers
