use Rattle.std.proofs.Common.{◌≡◌, length}
use Rattle.derivation_check.specs.Marked.{IsClear}
use Rattle.derivation_check.proofs.marks.Marks.new.Given as goal

abbrev pub invariant-filling : goal.invariant-filling
invariant-filling l = record { len : length l.signs.items ≡ l.counter; clear : IsClear l.signs.items }
