use Rattle.std.proofs.Common.{sym}
use Rattle.clause_builds.proofs.Leaving.{made-done, after-done}
use Rattle.node_clauses.proofs.sums.add_at.Goals as goal

pub returns-in-None-clause-totals : goal.returns-in-None-clause-totals
returns-in-None-clause-totals c = rw c.in-None.is (sym (made-done c.args.form.now c.args.totals.now))

pub returns-in-None-clause-formula : goal.returns-in-None-clause-formula
returns-in-None-clause-formula c = rw c.in-None.is (sym (after-done c.args.form.now c.args.totals.now))
