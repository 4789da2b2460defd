use Rattle.model_laws.proofs.Covers.{covered_window_law}
use Rattle.model_laws.proofs.covered_window_law.Goals as goal

pub returns : goal.returns
returns c = covered_window_law
