use Rattle.rv_asm.proofs.LawLemmas.{numbers_put}
use Rattle.rv_asm.proofs.laws.numbers_are_put_law.Goals as goal

pub returns : goal.returns
returns c = numbers_put
