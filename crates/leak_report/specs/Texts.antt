-- Names, numbers and lines as they are printed.
use Rattle.std.specs.Prelude.{ℕ, ◌+◌, ◌/◌, ◌%◌, ◌^◌, ◌||◌, ◌==◌, ◌++◌, List, [], ◌∷◌, codes, map, nat_lt, if◌then◌else◌}
use Rattle.std.specs.Fmt.{decimal}

abbrev pub Text : Type 0
Text = List ℕ

-- a name as it is printed: each control character is a question mark
abbrev pub printed : Text → Text
printed name = map (λ c. if nat_lt c 32 || c == 127 then 63 else c) name

-- a line of a word and a number
abbrev pub count_line : Text → ℕ → Text
count_line word number = word ++ decimal number ++ codes "\n"

-- a lower-case hexadecimal digit
abbrev pub hex_digit : ℕ → ℕ
hex_digit n = if nat_lt n 10 then 48 + n else 87 + n

-- the digit of a number that counts so much
abbrev pub hex_at : ℕ → ℕ → ℕ
hex_at n weight = hex_digit (n / weight % 16)

-- eight hexadecimal digits
abbrev pub hex_text : ℕ → Text
hex_text n = map (hex_at n) (16 ^ 7 ∷ 16 ^ 6 ∷ 16 ^ 5 ∷ 16 ^ 4 ∷ 16 ^ 3 ∷ 16 ^ 2 ∷ 16 ∷ 1 ∷ [])
