use Rattle.cycle_sim.proofs.SettleLemmas.{AreSettled}
use Rattle.cycle_sim.proofs.settle.settle.Given as goal

abbrev pub invariant-cells : goal.invariant-cells
invariant-cells l = AreSettled l.graph.flat l.number-items l.number-index l.initial.row l.row
