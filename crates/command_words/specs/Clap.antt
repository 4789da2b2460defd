-- What `clap` is given for a table, in the words of its own definitions.
use Rattle.std.specs.Prelude.{◌&&◌, ◌∷◌, ◌++◌, List, [], map, Bool, true, false, not, Option, Some, None, option_and_then, codes, cond, if◌then◌else◌}
use Rattle.clap.specs.Faults.{fault_of}
use Rattle.clap.specs.Kinds.{Kinds}
use Rattle.clap.specs.Matches.{first_value, found_of}
use Rattle.clap.specs.Simple.{App, matches_of, new_app, new_rule}
use Rattle.clap.specs.Walk.{Rule, first_of}
use Rattle.clap.specs.declared.builder.action.ArgAction.TheVariants.{Set}
use Rattle.clap.specs.declared.parser.matches.ArgMatches.{ArgMatches}
use Rattle.command_words.specs.Tables.{Argument, Table, Text, has_value}
use Rattle.command_words.specs.Words.{Values, after_minus, begins_with_minus}

-- the word has something behind two first minus signs
abbrev pub has_rest : Option Text → Bool
has_rest None = false
has_rest (Some []) = false
has_rest (Some (c ∷ cs)) = true

-- `-`, `--` and words with one minus sign: clap has readings of them that the grammar does not have
abbrev pub is_short : Text → Bool
is_short word = begins_with_minus word && not (has_rest (option_and_then after_minus (after_minus word)))

-- ---- the command that is handed to clap

abbrev pub value_rule : Text → Rule
value_rule name = record (new_rule name) { long = Some name }

-- an option with no value of its own, for which the empty text stands
abbrev pub flag_rule : Text → Rule
flag_rule name = record (new_rule name) {
  long = Some name;
  action = Some Set;
  range = Some (record { start_inclusive = 0; end_inclusive = 0 });
  missing = [] ∷ [];
}

abbrev pub option_rule : Argument → Rule
option_rule a = if has_value a.meaning then value_rule a.name else flag_rule a.name

abbrev pub place_rules : Option Argument → List Rule
place_rules None = []
place_rules (Some a) = new_rule a.name ∷ []

abbrev pub app_with : List Rule → App
app_with rules = record (new_app (codes "words")) {
  top = record (new_app (codes "words")).top {
    rules = rules;
    no_binary_name = true;
    disable_help_flag = true;
    disable_version_flag = true;
  };
}

abbrev pub app_for : Table → App
app_for table = app_with (map option_rule table.options ++ place_rules table.place)

-- ---- what clap makes of words

abbrev pub is_empty : Kinds → Bool
is_empty [] = true
is_empty (k ∷ ks) = false

-- the values of the matches, where clap finds no fault
unfoldable pub clap_values : App → List Text → Option Values
clap_values app words = cond (is_empty (fault_of app words)) (Some (λ name. first_of name (matches_of app words))) None

-- the values that matches hold
abbrev pub values_in : ArgMatches → Values
values_in m = first_value (found_of m)
