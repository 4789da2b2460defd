-- Lines and words of a text, and what they say of bits.
use Rattle.std.specs.Prelude.{ℕ, ◌+◌, ◌-◌, ◌*◌, ◌==◌, ◌&&◌, List, [], ◌∷◌, ◌++◌, length, map, filter, min, Bool, not, Option, Some, None, option_map, nat_le, nat_lt, codes, if◌then◌else◌}
use Rattle.std.specs.Borrow.{Bor}
use Rattle.std.specs.Char.{is_ascii_digit}
use Rattle.std.specs.Fmt.{decimal}
use Rattle.std.specs.List.{list_all, list_any, range_with_len, slice_split}
use Rattle.std.specs.Str.{bytes_eq}

infixl 10 ◌>>=◌
abbrev pub ◌>>=◌ : {A B : Type 0} → Option A → (A → Option B) → Option B
None >>= f = None
(Some x) >>= f = f x

-- what f gives for each item, where it gives something for all
abbrev pub each_of : {A B : Type 0} → (A → Option B) → List A → Option (List B)
each_of f [] = Some []
each_of f (x ∷ xs) = do
  y ← f x
  ys ← each_of f xs
  Some (y ∷ ys)

-- pieces of a text as the code has them
abbrev pub shown : List (Bor (List ℕ)) → List (List ℕ)
shown pieces = map (λ (p : Bor (List ℕ)). p.now) pieces

abbrev pub is_among : List ℕ → ℕ → Bool
is_among separators b = list_any (λ s. s == b) separators

-- the pieces between separators; one more than there are separators
abbrev pub pieces : List ℕ → List ℕ → List (List ℕ)
pieces separators bytes = slice_split (is_among separators) bytes

abbrev pub lines_of : List ℕ → List (List ℕ)
lines_of text = pieces (codes "\n") text

abbrev pub is_word : List ℕ → Bool
is_word piece = not (length piece == 0)

-- blanks and the marks of rows stand between words
abbrev pub words_of : List ℕ → List (List ℕ)
words_of line = filter is_word (pieces (codes " =(),:") line)

-- a printable character of ASCII that stands for itself in a JSON string
abbrev pub is_plain : ℕ → Bool
is_plain b = nat_le 33 b && nat_le b 126 && not (b == 34) && not (b == 92)

abbrev pub plain : List ℕ → Option (List ℕ)
plain word = if list_all is_plain word then Some word else None

-- the number of decimal digits, at most 9999, read on from the number of those before them
abbrev pub number_from : ℕ → List ℕ → Option ℕ
number_from n [] = Some n
number_from n (b ∷ bs) = if is_ascii_digit b && nat_lt n 1000 then number_from (10 * n + (b - 48)) bs else None

-- ---- the bits that a line adds

abbrev pub place_name : List ℕ → ℕ → List ℕ
place_name name k = name ++ codes "[" ++ decimal k ++ codes "]"

-- the names of the bits of a net: one bit has the name of the net
abbrev pub places : List ℕ → ℕ → List (List ℕ)
places name width = if width == 1 then name ∷ [] else map (place_name name) (range_with_len 0 width)

abbrev pub width_of : List (List ℕ) → Option ℕ
width_of [] = Some 1
width_of (w ∷ []) = number_from 0 w
width_of (w ∷ v ∷ more) = None

-- the word begins a line of bits without a cell: inputs, or bits that nothing drives
abbrev pub names_bits : List ℕ → Bool
names_bits word = list_any (λ w. bytes_eq w word) (codes "in" ∷ codes "open" ∷ [])

-- the names of the bits that a line adds, where it is a row: those of `in NAME WIDTH` and `open NAME WIDTH`, none for
-- `net NAME WIRE ..`, and one for `NAME TYPE ..`
abbrev pub own_bits : List (List ℕ) → Option (List (List ℕ))
own_bits [] = Some []
own_bits (first ∷ []) = None
own_bits (first ∷ name ∷ more) =
    if bytes_eq first (codes "net") then Some []
    else (if names_bits first then option_map (places name) (width_of more) else Some (first ∷ []))

-- ---- lines one after the other

-- the number of the next line
abbrev pub next_line : ℕ → ℕ
next_line n = min (n + 1) 4294967295
