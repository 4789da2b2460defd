use Rattle.node_laws.proofs.Complete.{reads_below}
use Rattle.node_laws.proofs.reads_law.Goals as goal

pub returns : goal.returns
returns c = reads_below c.evaluation_law.ensures c.least_choice_law.ensures
