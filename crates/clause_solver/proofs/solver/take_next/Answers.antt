use Rattle.std.proofs.Common.{ap, ◌∙◌, ◌-◌, take}
use Rattle.clause_solver.proofs.solver.take_next.Goals as goal

pub returns-in-Some : goal.returns-in-Some
returns-in-Some g c = c.pop.ensures.rest ∙ ap (λ n. take (n - 1) c.args.others.now.items) c.args.others.now.ok.0

pub returns-in-None : goal.returns-in-None
returns-in-None g c = c.pop.ensures.rest ∙ ap (λ n. take (n - 1) c.args.others.now.items) c.args.others.now.ok.0
