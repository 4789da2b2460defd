use Rattle.model_laws.proofs.WordLeaves.{word_leaf_law}
use Rattle.model_laws.proofs.word_leaf_law.Goals as goal

pub returns : goal.returns
returns c = word_leaf_law
