use Rattle.walsh_laws.proofs.NeededTries.{least_choice_law}
use Rattle.walsh_laws.proofs.least_choice_law.Goals as goal

pub returns : goal.returns
returns c = least_choice_law
