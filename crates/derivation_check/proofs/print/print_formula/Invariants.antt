use Rattle.std.proofs.Common.{◌≡◌, ◌++◌, take}
use Rattle.std.specs.String.{string_bytes}
use Rattle.derivation_check.specs.Texts.{clauses_text}
use Rattle.derivation_check.proofs.print.print_formula.Given as goal

abbrev pub invariant-printing : goal.invariant-printing
invariant-printing l = string_bytes l.text ≡ string_bytes l.initial.text ++ clauses_text (take l.id l.store)
