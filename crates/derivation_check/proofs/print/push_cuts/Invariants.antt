use Rattle.std.proofs.Common.{◌≡◌, ◌++◌, take}
use Rattle.std.specs.String.{string_bytes}
use Rattle.derivation_check.specs.Texts.{cuts_text}
use Rattle.derivation_check.proofs.print.push_cuts.Given as goal

abbrev pub invariant-printing : goal.invariant-printing
invariant-printing l = string_bytes l.text ≡ string_bytes l.initial.text ++ cuts_text (take l.cut-index l.cuts)
