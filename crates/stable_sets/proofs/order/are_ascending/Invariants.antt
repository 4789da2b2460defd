use Rattle.stable_sets.proofs.OrderLemmas.{AreAscendingTo}
use Rattle.stable_sets.proofs.order.are_ascending.Given as goal

abbrev pub invariant-probes : goal.invariant-probes
invariant-probes l = AreAscendingTo l.probes l.place
