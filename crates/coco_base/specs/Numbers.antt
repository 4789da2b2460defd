-- Numbers as digits write them.
use Rattle.std.specs.Prelude.{ℕ, ◌==◌, nat_lt, nat_le, Bool, false, if◌then◌else◌, List, [], ◌∷◌, drop, Result, Ok, Err, codes}
use Rattle.std.specs.Char.{digit_value}
use Rattle.std.specs.List.{list_all, starts_with}
use Rattle.std.specs.Str.Parse.{digits_value}
use Rattle.coco_base.specs.declared.number.NumberFault.{NumberFault}
use Rattle.coco_base.specs.declared.number.NumberFault.TheVariants.{NotDigits, TooLarge}

-- one digit of a radix or more, and nothing else; letters of either case stand for the digits from ten on
abbrev pub are_digits : ℕ → List ℕ → Bool
are_digits radix [] = false
are_digits radix (c ∷ cs) = list_all (λ d. nat_lt (digit_value d) radix) (c ∷ cs)

abbrev pub within : ℕ → ℕ → Result ℕ NumberFault
within most n = if nat_le n most then Ok n else Err TooLarge

-- the number that digits of a radix write, up to a greatest one
abbrev pub number_of : ℕ → ℕ → List ℕ → Result ℕ NumberFault
number_of radix most digits =
    if are_digits radix digits then within most (digits_value radix digits) else Err NotDigits

-- the number of decimal digits, or of hexadecimal ones after `0x`
abbrev pub literal_of : ℕ → List ℕ → Result ℕ NumberFault
literal_of most word =
    if starts_with ◌==◌ word (codes "0x") then number_of 16 most (drop 2 word) else number_of 10 most word
