use Rattle.std.proofs.Common.{subst, arith}
use Rattle.std.proofs.lemmas.Bool.{leb-true}
use Rattle.circuit_clauses.specs.Formulas.{CanStep}
use Rattle.circuit_clauses.proofs.Sizes.{can_step}
use Rattle.circuit_clauses.proofs.form.Form.can_step.Goals as goal

pub returns-then-self-lt-VARS : goal.returns-then-self-lt-VARS
returns-then-self-lt-VARS c = λ h.
    let few = leb-true c.count.result 2147483642 h in
    subst CanStep c.self.view_is (can_step (record { vars = c.self.inside.vars; clauses = c.self.inside.store }) (omega arith) (omega (arith, few, c.count.ensures.count)))
