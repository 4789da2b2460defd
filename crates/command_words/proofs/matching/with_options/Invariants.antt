use Rattle.std.proofs.Common.{◌≡◌, map, take}
use Rattle.clap.specs.Simple.{app_of}
use Rattle.command_words.specs.Clap.{app_with, option_rule}
use Rattle.command_words.specs.Shown.{shown_argument}
use Rattle.command_words.proofs.matching.with_options.Given as goal

abbrev pub invariant-options : goal.invariant-options
invariant-options l =
    app_of l.command ≡ app_with (map option_rule (map shown_argument (take l.argument-index l.options)))
