use Rattle.rv_isa.proofs.OneWord.{one_word}
use Rattle.rv_isa.proofs.encoding.words_are_distinct.Goals as goal

pub returns : goal.returns
returns c = one_word
