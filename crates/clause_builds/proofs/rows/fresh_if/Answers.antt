use Rattle.std.proofs.Common.{sym, false}
use Rattle.circuit_clauses.specs.declared.signal.Signal.TheVariants.{Constant}
use Rattle.clause_builds.proofs.Leaving.{made-done, after-done}
use Rattle.clause_builds.proofs.rows.fresh_if.Goals as goal

pub returns-else-wanted-clause-signal : goal.returns-else-wanted-clause-signal
returns-else-wanted-clause-signal c = rw c.if-wanted.false (sym (made-done c.args.form.now (Constant false)))

pub returns-else-wanted-clause-formula : goal.returns-else-wanted-clause-formula
returns-else-wanted-clause-formula c = rw c.if-wanted.false (sym (after-done c.args.form.now (Constant false)))
