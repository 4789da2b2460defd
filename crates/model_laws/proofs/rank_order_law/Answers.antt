use Rattle.model_laws.proofs.RankOrders.{rank_order_law}
use Rattle.model_laws.proofs.rank_order_law.Goals as goal

pub returns : goal.returns
returns c = rank_order_law
