use Rattle.std.proofs.Common.{◌≡◌, ◌++◌, take}
use Rattle.std.specs.String.{string_bytes}
use Rattle.derivation_check.specs.Texts.{lines_text}
use Rattle.derivation_check.proofs.print.print_derivation.Given as goal

abbrev pub invariant-printing : goal.invariant-printing
invariant-printing l = string_bytes l.text ≡ string_bytes l.initial.text ++ lines_text (take l.line-index l.derivation.lines)
