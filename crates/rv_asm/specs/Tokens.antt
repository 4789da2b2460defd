-- The smallest parts of a line: words, marks and the blanks round them.
use Rattle.std.specs.Prelude.{ℕ, ◌==◌, nat_le, Bool, false, not, ◌||◌, ◌&&◌, if◌then◌else◌, List, [], ◌∷◌, length, take, drop, Option, Some, None, codes}
use Rattle.std.specs.List.{prefix_len}
use Rattle.std.specs.Str.{bytes_eq}
use Rattle.coco_base.specs.Texts.{is_blank}
use Rattle.rv_asm.specs.Readings.{◌>>=◌}

-- the bytes from the first that is neither a space nor a tab
abbrev pub after_blanks : List ℕ → List ℕ
after_blanks bytes = drop (prefix_len is_blank bytes) bytes

-- the byte is from low to high
abbrev pub is_within : ℕ → ℕ → ℕ → Bool
is_within low high byte = nat_le low byte && nat_le byte high

abbrev pub is_digit : ℕ → Bool
is_digit byte = is_within 48 57 byte

-- a letter, a digit, `_`, `.` or `$`
abbrev pub is_name_byte : ℕ → Bool
is_name_byte byte =
    is_within 97 122 byte || is_within 65 90 byte || is_digit byte || byte == 95 || byte == 46 || byte == 36

abbrev pub after_byte : ℕ → List ℕ → Option (List ℕ)
after_byte byte [] = None
after_byte byte (b ∷ rest) = if b == byte then Some rest else None

-- a mark of one byte, with blanks before it
unfoldable pub mark_at : ℕ → List ℕ → Option (List ℕ)
mark_at mark bytes = after_byte mark (after_blanks bytes)

-- the bytes of names at the front, one at least
unfoldable pub run_at : List ℕ → Option (List ℕ × List ℕ)
run_at bytes =
    let n = prefix_len is_name_byte bytes in
    if n == 0 then None else Some (take n bytes, drop n bytes)

-- a word, with blanks before it
unfoldable pub word_at : List ℕ → Option (List ℕ × List ℕ)
word_at bytes = run_at (after_blanks bytes)

abbrev pub begins_with_digit : List ℕ → Bool
begins_with_digit [] = false
begins_with_digit (b ∷ bs) = is_digit b

-- a word that is a name: it does not begin with a digit, and is not `.`
abbrev pub is_name : List ℕ → Bool
is_name word = not (begins_with_digit word) && not (bytes_eq word (codes "."))

unfoldable pub name_at : List ℕ → Option (List ℕ × List ℕ)
name_at bytes = do
  word ← word_at bytes
  if is_name word.0 then Some word else None

-- nothing but blanks
unfoldable pub ends : List ℕ → Option (Unit {0})
ends bytes = if length (after_blanks bytes) == 0 then Some tt else None
