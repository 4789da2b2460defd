use Rattle.node_laws.proofs.Complete.{complete}
use Rattle.node_laws.proofs.complete_law.Goals as goal

pub returns : goal.returns
returns c = complete c.evaluation_law.ensures c.least_choice_law.ensures
