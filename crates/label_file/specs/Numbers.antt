-- The numbers of a label file.
use Rattle.std.specs.Prelude.{ℕ, ◌^◌, ◌-◌, ◌%◌, ◌==◌, nat_lt, nat_le, Bool, ◌&&◌, ◌||◌, if◌then◌else◌, List, Option, Some, None, Result, Ok, Err}
use Rattle.std.specs.Option.{option_and_then}
use Rattle.coco_base.specs.declared.number.NumberFault.{NumberFault}
use Rattle.coco_base.specs.Numbers.{literal_of, number_of}
use Rattle.label_file.specs.declared.cause.Cause.{Cause}
use Rattle.label_file.specs.declared.cause.Cause.TheVariants.{ShareRange}

-- the greatest number of a value
abbrev pub greatest : ℕ
greatest = 2 ^ 32 - 1

abbrev pub found : Result ℕ NumberFault → Option ℕ
found (Ok n) = Some n
found (Err fault) = None

-- a number from 0 to 4294967295, in decimal digits or in hexadecimal ones after `0x`
abbrev pub number_on : List ℕ → Option ℕ
number_on word = found (literal_of greatest word)

-- a multiple of 4 in one of the memory's regions
abbrev pub is_word_address : ℕ → Bool
is_word_address n = n % 4 == 0 && (nat_lt n 0x4000 || (nat_le 0x10000 n && nat_lt n 0x11000))

-- the address of a memory word
abbrev pub address_of : List ℕ → Option ℕ
address_of word = option_and_then (λ n. if is_word_address n then Some n else None) (number_on word)

abbrev pub from_one : Result ℕ NumberFault → Result ℕ Cause
from_one (Ok n) = if nat_lt 0 n then Ok n else Err ShareRange
from_one (Err fault) = Err ShareRange

-- a number from 1 to a greatest one, in decimal digits
unfoldable pub count_of : ℕ → List ℕ → Result ℕ Cause
count_of most word = from_one (number_of 10 most word)

abbrev pub below : ℕ → Result ℕ NumberFault → Result ℕ Cause
below bound (Ok n) = if nat_lt n bound then Ok n else Err ShareRange
below bound (Err fault) = Err ShareRange

-- a number below a bound, in decimal digits
unfoldable pub index_of : ℕ → List ℕ → Result ℕ Cause
index_of bound word = below bound (number_of 10 greatest word)
