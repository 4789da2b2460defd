use Rattle.std.proofs.Common.{◌≡◌, ◌++◌, take}
use Rattle.std.specs.String.{string_bytes}
use Rattle.derivation_check.specs.Texts.{lits_text}
use Rattle.derivation_check.proofs.print.push_lits.Given as goal

abbrev pub invariant-printing : goal.invariant-printing
invariant-printing l = string_bytes l.text ≡ string_bytes l.initial.text ++ lits_text (take l.lit-index l.lits)
