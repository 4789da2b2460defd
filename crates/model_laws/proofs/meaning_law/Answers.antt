use Rattle.model_laws.proofs.Meanings.{meaning_law}
use Rattle.model_laws.proofs.meaning_law.Goals as goal

pub returns : goal.returns
returns c = meaning_law
