-- The line that says how a program is called.
use Rattle.std.specs.Prelude.{◌++◌, [], flat_map, Option, Some, None, codes}
use Rattle.command_words.specs.Tables.{Argument, Table, Text}
use Rattle.command_words.specs.declared.table.Meaning.{Meaning}
use Rattle.command_words.specs.declared.table.Meaning.TheVariants.{Name, OptionalName, Number, OptionalNumber, Flag}

-- an option, in brackets where it may be left out
abbrev pub option_usage : Meaning → Text → Text → Text
option_usage Name name letter = codes " --" ++ name ++ codes " " ++ letter
option_usage (Number low high) name letter = codes " --" ++ name ++ codes " " ++ letter
option_usage OptionalName name letter = codes " [--" ++ name ++ codes " " ++ letter ++ codes "]"
option_usage (OptionalNumber low high default) name letter = codes " [--" ++ name ++ codes " " ++ letter ++ codes "]"
option_usage Flag name letter = codes " [--" ++ name ++ codes "]"

abbrev pub argument_usage : Argument → Text
argument_usage a = option_usage a.meaning a.name a.letter

abbrev pub place_usage : Option Argument → Text
place_usage None = []
place_usage (Some a) = codes " " ++ a.letter

-- the program, its options in the order of the table, and then the word that belongs to none
abbrev pub usage_line : Table → Text
usage_line table = table.program ++ flat_map argument_usage table.options ++ place_usage table.place
