use Rattle.std.proofs.Common.{sym}
use Rattle.clause_builds.proofs.Leaving.{made-done, after-done}
use Rattle.node_clauses.proofs.selectors.known_or_fresh.Goals as goal

pub returns-in-Some-clause-signal : goal.returns-in-Some-clause-signal
returns-in-Some-clause-signal c = rw c.in-Some.is (sym (made-done c.args.form.now c.in-Some.signal))

pub returns-in-Some-clause-formula : goal.returns-in-Some-clause-formula
returns-in-Some-clause-formula c = rw c.in-Some.is (sym (after-done c.args.form.now c.in-Some.signal))
