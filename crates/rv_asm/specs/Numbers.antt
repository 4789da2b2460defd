-- Numbers as they are written in a line.
use Rattle.std.specs.Prelude.{ℕ, ◌-◌, ◌^◌, ℤ, pos, neg_ℤ, Bool, true, false, List, Option, Some, None, Result, Ok, Err}
use Rattle.coco_base.specs.declared.number.NumberFault.{NumberFault}
use Rattle.coco_base.specs.declared.number.NumberFault.TheVariants.{NotDigits, TooLarge}
use Rattle.coco_base.specs.Numbers.{literal_of}
use Rattle.rv_asm.specs.Readings.{◌>>=◌}
use Rattle.rv_asm.specs.Tokens.{after_blanks, after_byte, run_at}

-- the greatest magnitude of a number with a minus sign, and without one
abbrev pub most_magnitude : Bool → ℕ
most_magnitude true = 2 ^ 31
most_magnitude false = 2 ^ 32 - 1

abbrev pub with_sign : Bool → ℕ → ℤ
with_sign true n = neg_ℤ (pos n)
with_sign false n = pos n

-- what a literal says: a number, nothing for a number that is too great, and else it is none
abbrev pub value_of_literal : Bool → Result ℕ NumberFault → Option (Option ℤ)
value_of_literal negative (Ok n) = Some (Some (with_sign negative n))
value_of_literal negative (Err TooLarge) = Some None
value_of_literal negative (Err NotDigits) = None

-- decimal digits, or `0x` and hexadecimal digits; with its sign the number is from -2147483648 to 4294967295
unfoldable pub magnitude_at : Bool → List ℕ → Option (Option ℤ × List ℕ)
magnitude_at negative bytes = do
  run ← run_at bytes
  value ← value_of_literal negative (literal_of (most_magnitude negative) run.0)
  Some (value, run.1)

abbrev pub signed_at : List ℕ → Option (List ℕ) → Option (Option ℤ × List ℕ)
signed_at bytes None = magnitude_at false bytes
signed_at bytes (Some rest) = magnitude_at true rest

-- a number, with blanks before it; inside it none
unfoldable pub number_at : List ℕ → Option (Option ℤ × List ℕ)
number_at bytes = signed_at (after_blanks bytes) (after_byte 45 (after_blanks bytes))
