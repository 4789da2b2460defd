use Rattle.std.proofs.Common.{◌≡◌, ◌++◌, length}
use Rattle.std.specs.List.{All}
use Rattle.derivation_check.specs.Texts.{cuts_text, IsCutInRange}
use Rattle.derivation_check.proofs.items.read_cuts.Given as goal

abbrev pub invariant-reading : goal.invariant-reading
invariant-reading l = record {
  in_range : All IsCutInRange l.cuts;
  text : l.initial.reader ≡ cuts_text l.cuts ++ l.reader;
}

abbrev pub decreases-reading : goal.decreases-reading
decreases-reading l = length l.reader
