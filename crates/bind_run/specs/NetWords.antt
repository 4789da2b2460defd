-- Words that name a place of a net: a name with digits in brackets behind it.
use Rattle.std.specs.Prelude.{ℕ, suc, ◌+◌, ◌-◌, ◌==◌, Bool, ◌&&◌, if◌then◌else◌, List, [], ◌∷◌, take, length, get_or, Option, Some, None}
use Rattle.std.specs.Borrow.{Bor}
use Rattle.std.specs.List.{slice_range}
use Rattle.std.specs.Option.{option_map}
use Rattle.coco_base.specs.Numbers.{are_digits}

-- digits, and the bracket that closes
abbrev pub closes : List ℕ → Bool
closes rest = get_or rest (length rest - 1) 0 == 93 && are_digits 10 (take (length rest - 1) rest)

-- a bracket that opens digits at the end
abbrev pub opens : ℕ → List ℕ → Bool
opens c rest = c == 91 && closes rest

-- the place of the bracket that opens the digits at the end of a word
abbrev pub bracket : List ℕ → Option ℕ
bracket [] = None
bracket (c ∷ cs) = if opens c cs then Some 0 else option_map suc (bracket cs)

-- a name, and the digits of a place of it
pub record PlaceWord : Type 0 where
  pub name : List ℕ
  pub digits : List ℕ

-- what stands before a bracket, and behind it without the last byte
abbrev pub place_at : List ℕ → ℕ → PlaceWord
place_at word k = record { name = take k word; digits = slice_range word (k + 1) (length word - 1) }

-- the name and the digits of a word that ends in digits in brackets
abbrev pub place_word : List ℕ → Option PlaceWord
place_word word = option_map (place_at word) (bracket word)

abbrev pub seen_place : Bor (List ℕ) × Bor (List ℕ) → PlaceWord
seen_place p = record { name = p.0.now; digits = p.1.now }
