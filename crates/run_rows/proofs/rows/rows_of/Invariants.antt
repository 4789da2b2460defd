use Rattle.unroll.specs.Counters.{ArePcs}
use Rattle.unroll.specs.Walks.{IsStanding}
use Rattle.run_rows.specs.Cycles.{AreFirstRows}
use Rattle.run_rows.proofs.rows.rows_of.Given as goal

abbrev pub invariant-cycles : goal.invariant-cycles
invariant-cycles l = record {
  standing : IsStanding l.graph l.setup l.cycle l.sim;
  rows : AreFirstRows l.graph.flat l.setup l.cycle l.rows;
  pcs : ArePcs l.graph.flat l.setup l.cycle l.pcs;
}
