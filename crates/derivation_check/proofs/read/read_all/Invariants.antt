use Rattle.std.proofs.Common.{◌≡◌, ◌++◌, length}
use Rattle.std.specs.List.{All}
use Rattle.derivation_check.specs.Texts.{head_text, lines_text, IsPrintable}
use Rattle.derivation_check.proofs.read.read_all.Given as goal

abbrev pub invariant-reading : goal.invariant-reading
invariant-reading l = record {
  len : length l.lines ≡ l.place;
  printable : All IsPrintable l.lines;
  text : l.fn.reader ≡ head_text l.count ++ (lines_text l.lines ++ l.reader);
}
