-- Pieces between separators, and words as text.
use Rattle.std.proofs.Common.{◌≡◌, ℕ, zero, suc, ◌+◌, ◌≤◌, List, [], ◌∷◌, length, take, drop, Bool, true, Some, None, arith}
use Rattle.std.specs.List.{list_all, position, position_or_len, slice_split}
use Rattle.std.specs.Str.{IsAscii, IsUtf8}
use Rattle.std.proofs.lemmas.Bool.{and_parts}
use Rattle.std.proofs.lemmas.List.Quantifiers.{position-Some}
use Rattle.std.proofs.lemmas.List.Splits.{slice_split_first, slice_split_none}
use Rattle.std.proofs.lemmas.List.Sums.{fails_before_first, position_or_len_is}
use Rattle.std.proofs.lemmas.Str.{IsUtf8-from_ascii}
use Rattle.circuit_rows.specs.Words.{is_plain}

-- the first piece ends at the first separator
pub split_at : (test : ℕ → Bool) (bytes : List ℕ) (place : ℕ) → position test bytes ≡ Some place
    → slice_split test bytes ≡ take place bytes ∷ slice_split test (drop (place + 1) bytes)
split_at test bytes place found =
    let here = position-Some test bytes place 0 found in
    let first : position_or_len test bytes ≡ place =
    position_or_len_is test bytes place 0 (omega (arith, here.0)) here.2 (λ _. here.1) in
    rw first at (slice_split_first test bytes 0 (omega (arith, first, here.0)))

pub split_none : (test : ℕ → Bool) (bytes : List ℕ) → position test bytes ≡ None
    → slice_split test bytes ≡ bytes ∷ []
split_none test bytes missing =
    let none : length bytes ≤ position_or_len test bytes = grind (arith, missing) in
    slice_split_none test bytes (λ k d within. fails_before_first test bytes k d (omega (arith, within, none)))

plain_is_ascii : (word : List ℕ) → list_all is_plain word ≡ true → IsAscii word
plain_is_ascii [] h i = omega arith
plain_is_ascii (b ∷ bs) h zero = grind (arith, h)
plain_is_ascii (b ∷ bs) h (suc i) = plain_is_ascii bs (and_parts (is_plain b) _ h).1 i

-- a word of plain characters is a text
pub plain_is_text : (word : List ℕ) → list_all is_plain word ≡ true → IsUtf8 word
plain_is_text word h = IsUtf8-from_ascii word (plain_is_ascii word h)
