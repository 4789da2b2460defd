use Rattle.std.proofs.Common.{flat_map, map, take}
use Rattle.std.specs.Fmt.{HasWritten, IsPlainFormatter}
use Rattle.command_words.specs.Shown.{shown_argument}
use Rattle.command_words.specs.Usage.{argument_usage}
use Rattle.command_words.proofs.usage.UsageDisplay.fmt.Given as goal

abbrev pub invariant-options : goal.invariant-options
invariant-options g l =
    IsPlainFormatter l.initial.f → HasWritten g.W.Write.write_str_gives l.initial.f
    (flat_map argument_usage (map shown_argument (take l.option-index l.option-items))) l.f
