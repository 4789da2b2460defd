use Rattle.gate_graph.proofs.OrderLemmas.{IsOrderTo}
use Rattle.gate_graph.proofs.ranks.order_of.Given as goal

abbrev pub invariant-places : goal.invariant-places
invariant-places l = IsOrderTo l.fn.flat l.fn.ranks l.place l.order.items
