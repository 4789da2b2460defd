use Rattle.std.proofs.Common.{◌≤◌, ◌*◌, ◌+◌, refl, ap, arith}
use Rattle.clause_solver.proofs.RestartFacts.{going_same, going_new, planned_few}
use Rattle.clause_solver.proofs.restarts.Plan.is_due.Goals as goal

pub returns-then-count-self-clause-going : goal.returns-then-count-self-clause-going
returns-then-count-self-clause-going c = going_same _ _ _ c.args.count c.requires.planned (omega arith)

pub overflow_add-self : goal.overflow_add-self
overflow_add-self c =
    let few : c.args.self.now.restarts ≤ c.args.count = planned_few _ _ _ c.args.count c.requires.every c.requires.planned in
    omega arith

pub overflow_add-self-2 : goal.overflow_add-self-2
overflow_add-self-2 c =
    let few : c.args.self.now.restarts ≤ c.args.count = planned_few _ _ _ c.args.count c.requires.every c.requires.planned in
    omega arith

pub luby-requires-clause-bound : goal.luby-requires-clause-bound
luby-requires-clause-bound c =
    let few : c.args.self.now.restarts ≤ c.args.count = planned_few _ _ _ c.args.count c.requires.every c.requires.planned in
    omega arith

pub returns-clause-going : goal.returns-clause-going
returns-clause-going c =
    going_new _ _ _ c.args.count _ _ c.requires.every c.requires.planned (omega arith) refl (ap (λ n. c.args.self.now.next + c.args.self.now.every * n) c.luby.ensures.number)
