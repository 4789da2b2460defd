use Rattle.std.proofs.Common.{◌≡◌, ◌++◌, length}
use Rattle.rv_asm.specs.Programs.{words_of_bytes}
use Rattle.rv_asm.proofs.image.assembler.words_of_bytes.Given as goal

abbrev pub invariant-words : goal.invariant-words
invariant-words l = l.words ++ words_of_bytes l.rest ≡ words_of_bytes l.bytes

abbrev pub decreases-words : goal.decreases-words
decreases-words l = length l.rest
