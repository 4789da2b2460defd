use Rattle.unroll.specs.Counters.{ArePcs}
use Rattle.unroll.specs.Walks.{IsStanding}
use Rattle.unroll.proofs.counters.pcs_of.Given as goal

abbrev pub invariant-cycles : goal.invariant-cycles
invariant-cycles l = record {
  standing : IsStanding l.graph l.setup l.cycle l.sim;
  so_far : ArePcs l.graph.flat l.setup l.cycle l.pcs;
}
