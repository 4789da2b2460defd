use Rattle.stable_sets.specs.Reached.{AreRows}
use Rattle.stable_sets.proofs.tests.cases.rows_of.Given as goal

abbrev pub invariant-cycles : goal.invariant-cycles
invariant-cycles l = AreRows l.graph.flat l.cycle l.rows
