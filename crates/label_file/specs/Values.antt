-- Values: numbers, and labels of names that lines before declare.
use Rattle.std.specs.Prelude.{ℕ, ◌+◌, ◌*◌, ◌≤◌, Bool, true, false, if◌then◌else◌, List, [], ◌∷◌, Option, Some, None, Result, Ok, Err}
use Rattle.std.specs.List.{list_any}
use Rattle.label_file.specs.declared.cause.Cause.{Cause}
use Rattle.label_file.specs.declared.cause.Cause.TheVariants.{BadLine, UnknownSecret}
use Rattle.label_file.specs.declared.line.LabelValue.{LabelValue}
use Rattle.label_file.specs.declared.line.LabelValue.TheVariants.{Number, Bits}
use Rattle.label_file.specs.declared.names.Meaning.{Meaning}
use Rattle.label_file.specs.declared.names.Meaning.TheVariants.{Secret, Mask, Fresh}
use Rattle.label_file.specs.Causes.{◌>>=◌}
use Rattle.label_file.specs.LabelWords.{LabelWord, label_word}
use Rattle.label_file.specs.Names.{Table, meaning_of}
use Rattle.label_file.specs.Numbers.{index_of, number_on}

-- all bits from a label on, or the one of this number
unfoldable pub bits_of : ℕ → ℕ → Option (List ℕ) → Result LabelValue Cause
bits_of first width None = Ok (Bits first width)
bits_of first width (Some digits) = index_of width digits >>= λ k. Ok (Bits (first + k) 1)

-- a share of a secret: label first + share * width + bit
abbrev pub share_bits : ℕ → ℕ → ℕ → Option (List ℕ) → Option (List ℕ) → Result LabelValue Cause
share_bits first width shares None bit = Err UnknownSecret
share_bits first width shares (Some digits) bit =
    index_of shares digits >>= λ i. bits_of (first + i * width) width bit

unfoldable pub share_of : ℕ → ℕ → ℕ → LabelWord → Result LabelValue Cause
share_of first width shares word = share_bits first width shares word.share word.bit

-- a mask: label first + bit
abbrev pub mask_bits : ℕ → ℕ → Option (List ℕ) → Option (List ℕ) → Result LabelValue Cause
mask_bits first width None bit = bits_of first width bit
mask_bits first width (Some digits) bit = Err UnknownSecret

unfoldable pub mask_of : ℕ → ℕ → LabelWord → Result LabelValue Cause
mask_of first width word = mask_bits first width word.share word.bit

-- the labels of a word whose name has this meaning
abbrev pub labels_of : Option Meaning → LabelWord → Result LabelValue Cause
labels_of (Some (Secret first width shares)) word = share_of first width shares word
labels_of (Some (Mask first width)) word = mask_of first width word
labels_of (Some Fresh) word = Err UnknownSecret
labels_of None word = Err UnknownSecret

abbrev pub labelled : Table → Option LabelWord → Result LabelValue Cause
labelled names None = Err BadLine
labelled names (Some word) = labels_of (meaning_of names word.name) word

abbrev pub numbered : Table → List ℕ → Option ℕ → Result LabelValue Cause
numbered names word (Some n) = Ok (Number n)
numbered names word None = labelled names (label_word word)

-- the value of a word
unfoldable pub value_of : Table → List ℕ → Result LabelValue Cause
value_of names word = numbered names word (number_on word)

abbrev pub is_unknown_cause : Cause → Bool
is_unknown_cause UnknownSecret = true
is_unknown_cause c = false

abbrev pub fails_unknown : Result LabelValue Cause → Bool
fails_unknown (Ok value) = false
fails_unknown (Err c) = is_unknown_cause c

-- the word has a name that no line before declares for such a value
abbrev pub is_unknown : Table → List ℕ → Bool
is_unknown names word = fails_unknown (value_of names word)

-- the values of words, up to the first that has none
abbrev pub values_in : Table → List (List ℕ) → Result (List LabelValue) Cause
values_in names [] = Ok []
values_in names (word ∷ words) = value_of names word >>= λ v. values_in names words >>= λ vs. Ok (v ∷ vs)

-- the values of words; a name that is unknown comes before what is out of range in a word before it
unfoldable pub values_of : Table → List (List ℕ) → Result (List LabelValue) Cause
values_of names words = if list_any (is_unknown names) words then Err UnknownSecret else values_in names words

-- ---- the numbers of labels stay small

-- the labels of a name are below a number
abbrev pub HasRoom : ℕ → Option Meaning → Type 0
HasRoom most (Some (Secret first width shares)) = first + shares * width ≤ most
HasRoom most (Some (Mask first width)) = first + width ≤ most
HasRoom most (Some Fresh) = Unit {0}
HasRoom most None = Unit {0}

abbrev pub HaveRoom : Table → Type 0
HaveRoom names = (name : List ℕ) → HasRoom 4096 (meaning_of names name)
