-- What values mean: names and numbers.
use Rattle.std.specs.Prelude.{ℕ, ◌==◌, ◌&&◌, Bool, not, length, Option, Some, None, Result, Ok, Err, is_some, nat_le, nat_lt, if◌then◌else◌}
use Rattle.coco_base.specs.Numbers.{number_of}
use Rattle.coco_base.specs.declared.number.NumberFault.{NumberFault}
use Rattle.command_words.specs.Tables.{Argument, Text}
use Rattle.command_words.specs.Words.{Values, begins_with_minus}
use Rattle.command_words.specs.declared.table.Meaning.{Meaning}
use Rattle.command_words.specs.declared.table.Meaning.TheVariants.{Name, OptionalName, Number, OptionalNumber, Flag}

infixl 10 ◌>>=◌
abbrev pub ◌>>=◌ : {A B : Type 0} → Option A → (A → Option B) → Option B
None >>= f = None
(Some x) >>= f = f x

-- a name is not empty and does not begin with a minus sign
abbrev pub is_name : Text → Bool
is_name word = not (length word == 0) && not (begins_with_minus word)

abbrev pub as_name : Text → Option Text
as_name word = if is_name word then Some word else None

abbrev pub most_digits : ℕ
most_digits = 10

abbrev pub from_low : ℕ → Result ℕ NumberFault → Option ℕ
from_low low (Ok n) = if nat_le low n then Some n else None
from_low low (Err fault) = None

-- a number of one to ten decimal digits within limits
abbrev pub as_number : ℕ → ℕ → Text → Option ℕ
as_number low high word = if nat_lt most_digits (length word) then None else from_low low (number_of 10 high word)

-- ---- the values of arguments

-- a name that has to be given
abbrev pub name_of : Argument → Values → Option Text
name_of a values = values a.name >>= as_name

abbrev pub if_named : Option Text → Option (Option Text)
if_named None = Some None
if_named (Some word) = if is_name word then Some (Some word) else None

-- a name, where one is given
abbrev pub optional_name_of : Argument → Values → Option (Option Text)
optional_name_of a values = if_named (values a.name)

abbrev pub number_or : ℕ → ℕ → ℕ → Option Text → Option ℕ
number_or low high default None = Some default
number_or low high default (Some word) = as_number low high word

-- a number within its limits, or the default where there is one and the argument is not given
abbrev pub number_meant : Meaning → Option Text → Option ℕ
number_meant (Number low high) given = given >>= as_number low high
number_meant (OptionalNumber low high default) given = number_or low high default given
number_meant Name given = None
number_meant OptionalName given = None
number_meant Flag given = None

abbrev pub number_at : Argument → Values → Option ℕ
number_at a values = number_meant a.meaning (values a.name)

abbrev pub is_given : Argument → Values → Bool
is_given a values = is_some (values a.name)
