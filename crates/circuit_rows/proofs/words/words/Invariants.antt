-- the words so far, and those of the rest, are the words of all
use Rattle.std.proofs.Common.{◌≡◌, ◌++◌, length}
use Rattle.circuit_rows.specs.Words.{shown, words_of}
use Rattle.circuit_rows.proofs.words.words.Given as goal

abbrev pub invariant-words : goal.invariant-words
invariant-words l = shown l.words.items ++ words_of l.rest ≡ words_of l.fn.line

abbrev pub decreases-words : goal.decreases-words
decreases-words l = length l.rest
