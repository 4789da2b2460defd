use Rattle.unroll.proofs.SettleLemmas.{AreNoded}
use Rattle.unroll.proofs.cells.settle.Given as goal

abbrev pub invariant-cells : goal.invariant-cells
invariant-cells l = AreNoded l.at.graph.now l.at.setup.now l.at.cycle l.at.known.now l.at.before.now l.old l.number-index l.fn.now l.now l.fn.roots l.roots
