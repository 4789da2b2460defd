use Rattle.node_laws.proofs.WeighedFlop.{weighed_flop}
use Rattle.node_laws.proofs.examples.weighed_flop.Goals as goal

pub returns : goal.returns
returns c = weighed_flop
