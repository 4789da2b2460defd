-- The words of a call, split into options with their values by a table.
use Rattle.std.specs.Prelude.{◌≡◌, IfSome, ◌==◌, ◌&&◌, Bool, true, false, not, List, [], ◌∷◌, map, Option, Some, None, is_some, option_map, option_and_then, find, String, string_bytes, if◌then◌else◌}
use Rattle.std.specs.List.{list_any, before_first, after_first}
use Rattle.std.specs.Str.{bytes_eq}
use Rattle.std.specs.declared.alloc.Global.{Global}
use Rattle.command_words.specs.Tables.{Argument, Table, Text, has_value}

abbrev pub texts : List (String Global) → List Text
texts words = map string_bytes words

-- ---- one word

-- what stands after a first minus sign (45)
abbrev pub after_minus : Text → Option Text
after_minus [] = None
after_minus (c ∷ cs) = if c == 45 then Some cs else None

abbrev pub begins_with_minus : Text → Bool
begins_with_minus word = is_some (after_minus word)

-- what stands before the first `=` (61), and what stands after it, if there is one
abbrev pub name_and_value : Text → Text × Option Text
name_and_value text = (
  before_first (λ c. c == 61) text,
  if list_any (λ c. c == 61) text then Some (after_first (λ c. c == 61) text) else None,
)

-- the name and the value of `--name` or `--name=value`
abbrev pub option_word : Text → Option (Text × Option Text)
option_word word = option_map name_and_value (option_and_then after_minus (after_minus word))

-- ---- all words

-- arguments with their values, in the order of the words
abbrev pub Given : Type 0
Given = List (Argument × Text)

abbrev pub given : Argument → Text → Option Given → Option Given
given a value more = option_map (λ rest. (a, value) ∷ rest) more

-- no word is left: no option may wait for its value
abbrev pub end_met : Option Argument → Option Given
end_met None = Some []
end_met (Some a) = None

-- a word of this option, by whether it has a value and what stands after `=`; `rest` splits the words that follow,
-- where an option waits for its value or none does. A flag's value is the empty text.
abbrev pub option_met : Bool → Argument → Option Text → (Option Argument → Option Given) → Option Given
option_met true a None rest = rest (Some a)
option_met true a (Some value) rest = given a value (rest None)
option_met false a None rest = given a [] (rest None)
option_met false a (Some value) rest = None

abbrev pub known_met : Option Argument → Option Text → (Option Argument → Option Given) → Option Given
known_met None value rest = None
known_met (Some a) value rest = option_met (has_value a.meaning) a value rest

-- a word that is a value by itself does not begin with a minus sign
abbrev pub value_met : Argument → Text → (Option Argument → Option Given) → Option Given
value_met a word rest = if begins_with_minus word then None else given a word (rest None)

abbrev pub place_met : Option Argument → Text → (Option Argument → Option Given) → Option Given
place_met None word rest = None
place_met (Some a) word rest = value_met a word rest

-- the option with this whole name
abbrev pub option_named : List Argument → Text → Option Argument
option_named options name = find (λ a. bytes_eq a.name name) options

abbrev pub word_met : Table → Option (Text × Option Text) → Text → (Option Argument → Option Given) → Option Given
word_met table None word rest = place_met table.place word rest
word_met table (Some p) word rest = known_met (option_named table.options p.0) p.1 rest

-- no option has the empty name, and none the name of what other words stand for
pub record IsNamed (table : Table) : Type 0 where
  pub some : option_named table.options [] ≡ None
  pub apart : IfSome table.place (λ a. option_named table.options a.name ≡ None)

-- the words split into arguments with their values, where an option may wait for its value
abbrev pub split : Table → List Text → Option Argument → Option Given
split table [] waiting = end_met waiting
split table (word ∷ words) None = word_met table (option_word word) word (split table words)
split table (word ∷ words) (Some a) = value_met a word (split table words)

-- no argument is given twice
abbrev pub is_once : Given → Bool
is_once [] = true
is_once (g ∷ rest) = not (list_any (λ h. bytes_eq g.0.name h.0.name) rest) && is_once rest

abbrev pub if_once : Given → Option Given
if_once all = if is_once all then Some all else None

-- the arguments that the words give, each at most once
unfoldable pub given_by : Table → List Text → Option Given
given_by table words = option_and_then if_once (split table words None)

-- the value of each name that is given
abbrev pub Values : Type 0
Values = Text → Option Text

abbrev pub value_among : Given → Values
value_among all name = option_map (λ g. g.1) (find (λ g. bytes_eq g.0.name name) all)

-- the values that the words give to the arguments of a table
abbrev pub values_by : Table → List Text → Option Values
values_by table words = option_map value_among (given_by table words)
