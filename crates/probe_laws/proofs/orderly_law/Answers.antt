use Rattle.probe_laws.proofs.Orders.{are_orderly}
use Rattle.probe_laws.proofs.orderly_law.Goals as goal

pub returns : goal.returns
returns c = are_orderly
