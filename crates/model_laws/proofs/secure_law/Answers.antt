use Rattle.model_laws.proofs.Securely.{secure_law}
use Rattle.model_laws.proofs.secure_law.Goals as goal

pub returns : goal.returns
returns c = secure_law
