use Rattle.std.proofs.Common.{◌≡◌, ◌++◌, length}
use Rattle.std.specs.List.{All}
use Rattle.derivation_check.specs.Texts.{lits_text, IsLitInRange}
use Rattle.derivation_check.proofs.items.read_lits.Given as goal

abbrev pub invariant-reading : goal.invariant-reading
invariant-reading l = record {
  in_range : All IsLitInRange l.lits;
  text : l.initial.reader ≡ lits_text l.lits ++ l.reader;
}

abbrev pub decreases-reading : goal.decreases-reading
decreases-reading l = length l.reader
