use Rattle.std.proofs.Common.{length}
use Rattle.std.specs.Str.Lines.{lines}
use Rattle.rv_asm.proofs.WordLemmas.{IsReading}
use Rattle.rv_asm.proofs.image.word_file.read_words.Given as goal

abbrev pub invariant-reading : goal.invariant-reading
invariant-reading l = IsReading (lines l.bytes) (lines l.rest) l.image l.number

abbrev pub decreases-reading : goal.decreases-reading
decreases-reading l = length l.rest
