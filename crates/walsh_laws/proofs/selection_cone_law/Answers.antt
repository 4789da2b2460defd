use Rattle.walsh_laws.proofs.RootCones.{selection_cone_law}
use Rattle.walsh_laws.proofs.selection_cone_law.Goals as goal

pub returns : goal.returns
returns c = selection_cone_law
