-- One option more in the command that is handed to clap.
use Rattle.std.proofs.Common.{◌≡◌, ◌∙◌, ◌+◌, ◌<◌, ◌++◌, ℕ, List, [], ◌∷◌, ap, ap₂, false, get_or, length, map, refl, sym, take}
use Rattle.std.proofs.lemmas.List.{map-append, take_more}
use Rattle.clap.specs.Built.{AddsArg}
use Rattle.clap.specs.Simple.{app_of, with_rule}
use Rattle.clap.specs.Walk.{Rule, rule_of}
use Rattle.clap.specs.declared.builder.arg.Arg.{Arg}
use Rattle.clap.specs.declared.builder.command.Command.{Command}
use Rattle.command_words.specs.Clap.{app_with, option_rule}
use Rattle.command_words.specs.Shown.{shown_argument}
use Rattle.command_words.specs.declared.table.Argument.{Argument as CodedArgument}

-- the rules of the first i options
abbrev pub first_rules : ℕ → List CodedArgument → List Rule
first_rules i options = map option_rule (map shown_argument (take i options))

more : (options : List CodedArgument) (i : ℕ) (d : CodedArgument) → i < length options
    → first_rules (i + 1) options ≡ first_rules i options ++ option_rule (shown_argument (get_or options i d)) ∷ []
more options i d below = rw (take_more options i d below, map-append, map-append) refl

pub one_more : (old new : Command) (arg : Arg) (options : List CodedArgument) (i : ℕ) (d : CodedArgument) → i < length options
    → AddsArg old arg new → arg.global ≡ false → rule_of arg ≡ option_rule (shown_argument (get_or options i d))
    → app_of old ≡ app_with (first_rules i options) → app_of new ≡ app_with (first_rules (i + 1) options)
one_more old new arg options i d below added local rule before =
    added.shape local ∙ (ap₂ with_rule before rule ∙ sym (ap app_with (more options i d below)))
