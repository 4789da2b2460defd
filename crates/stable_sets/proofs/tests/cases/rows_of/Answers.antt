use Rattle.std.proofs.Common.{sym, subst}
use Rattle.stable_sets.specs.Reached.{AreRows}
use Rattle.stable_sets.proofs.MadeRuns.{rows_more}
use Rattle.stable_sets.proofs.tests.cases.rows_of.Goals as goal

pub cycles-preserved : goal.cycles-preserved
cycles-preserved c =
    subst (AreRows c.args.graph.now.flat _) (sym c.in_ok-push.ensures.ok)
    (rows_more c.args.graph.now.flat c.cycles.cycle c.cycles.rows c.in_ok-row.row c.cycles.invariant c.in_ok-row.ensures)
