use Rattle.std.proofs.Common.{refl}
use Rattle.probe_clauses.proofs.Choices.{done_made, done_after}
use Rattle.probe_clauses.specs.Walks.{pass_to}
use Rattle.probe_clauses.proofs.walks.pass_to.Goals as goal

pub returns-in-Const-clause-row : goal.returns-in-Const-clause-row
returns-in-Const-clause-row c =
    done_made c.args.form.now (pass_to c.args.wire c.args.output c.args.row.now) c.args.row.now (rw c.in-Const.is refl)

pub returns-in-Const-clause-formula : goal.returns-in-Const-clause-formula
returns-in-Const-clause-formula c =
    done_after c.args.form.now (pass_to c.args.wire c.args.output c.args.row.now) c.args.row.now (rw c.in-Const.is refl)
