-- Words that name labels: `NAME`, `NAME.I`, `NAME[K]` and `NAME.I[K]`.
use Rattle.std.specs.Prelude.{ℕ, ◌+◌, ◌==◌, Bool, true, false, ◌&&◌, ◌||◌, if◌then◌else◌, List, [], ◌∷◌, take, drop, length, position, Option, Some, None}
use Rattle.std.specs.Borrow.{Bor}
use Rattle.std.specs.Char.{is_ascii_alphabetic, is_ascii_alphanumeric}
use Rattle.std.specs.List.{list_all}
use Rattle.std.specs.Option.{option_map, option_and_then}
use Rattle.coco_base.specs.Numbers.{are_digits}
use Rattle.label_file.specs.declared.label_word.LabelWord as code

-- a letter, a digit or `_`
abbrev pub is_name_byte : ℕ → Bool
is_name_byte byte = is_ascii_alphanumeric byte || byte == 95

-- a letter, and then letters, digits and `_`
abbrev pub is_name : List ℕ → Bool
is_name [] = false
is_name (c ∷ cs) = is_ascii_alphabetic c && list_all is_name_byte cs

-- a name, with the digits of a share and of a bit where they stand
pub record LabelWord : Type 0 where
  pub name : List ℕ
  pub share : Option (List ℕ)
  pub bit : Option (List ℕ)

-- what stands before a place, and behind it
abbrev pub cut_at : List ℕ → Option ℕ → Option (List ℕ × List ℕ)
cut_at word None = None
cut_at word (Some n) = Some (take n word, drop (n + 1) word)

-- what stands before the first byte of a kind, and behind it
abbrev pub cut : ℕ → List ℕ → Option (List ℕ × List ℕ)
cut byte word = cut_at word (position (λ b. b == byte) word)

-- the digits, where nothing stands behind the bracket that closes
abbrev pub closed : List ℕ → List ℕ × List ℕ → Option (List ℕ × Option (List ℕ))
closed front parts = if length parts.1 == 0 then Some (front, Some parts.0) else None

abbrev pub with_bit : List ℕ → Option (List ℕ × List ℕ) → Option (List ℕ × Option (List ℕ))
with_bit word None = Some (word, None)
with_bit word (Some parts) = option_and_then (closed parts.0) (cut 93 parts.1)

-- a word without a bit in brackets behind it, and the digits of the bit
unfoldable pub cut_bit : List ℕ → Option (List ℕ × Option (List ℕ))
cut_bit word = with_bit word (cut 91 word)

abbrev pub with_share : List ℕ → Option (List ℕ × List ℕ) → List ℕ × Option (List ℕ)
with_share word None = (word, None)
with_share word (Some parts) = (parts.0, Some parts.1)

-- a word without a share behind a point, and the digits of the share
unfoldable pub cut_share : List ℕ → List ℕ × Option (List ℕ)
cut_share word = with_share word (cut 46 word)

abbrev pub are_index : Option (List ℕ) → Bool
are_index None = true
are_index (Some digits) = are_digits 10 digits

abbrev pub named : List ℕ × Option (List ℕ) → Option (List ℕ) → Option LabelWord
named parts bit =
    if is_name parts.0 && are_index parts.1 && are_index bit
    then Some (record { name = parts.0; share = parts.1; bit = bit })
    else None

-- the name, the share and the bit of a word
unfoldable pub label_word : List ℕ → Option LabelWord
label_word word = option_and_then (λ parts. named (cut_share parts.0) parts.1) (cut_bit word)

-- ---- what the code has

abbrev pub seen_pair : Bor (List ℕ) × Bor (List ℕ) → List ℕ × List ℕ
seen_pair p = (p.0.now, p.1.now)

abbrev pub seen_option : Option (Bor (List ℕ)) → Option (List ℕ)
seen_option o = option_map (λ (d : Bor (List ℕ)). d.now) o

abbrev pub seen_cut : Bor (List ℕ) × Option (Bor (List ℕ)) → List ℕ × Option (List ℕ)
seen_cut p = (p.0.now, seen_option p.1)

abbrev pub seen : code.LabelWord → LabelWord
seen w = record { name = w.name.now; share = seen_option w.share; bit = seen_option w.bit }
