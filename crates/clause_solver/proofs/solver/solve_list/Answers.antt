use Rattle.std.proofs.Common.{◌≡◌, ◌+◌, ◌-◌, length, take, min, IfOk, ap, ◌∙◌, arith}
use Rattle.clause_solver.specs.Outcomes.{IsOutcome}
use Rattle.clause_solver.specs.Restarts.{AreLeft, TakesOthers, TakesPickers}
use Rattle.clause_solver.proofs.TakenFacts.{left_front, length_left, front_again, front_less, both_ok, takes_first}
use Rattle.clause_solver.proofs.solver.solve_list.Goals as goal

pub returns-in-None-clause-fewer : goal.returns-in-None-clause-fewer
returns-in-None-clause-fewer g c = absurd (omega (arith, (rw c.in-None.is at c.pop.ensures.cases).0, c.args.pickers.now.ok.0))

pub returns-in-Some-clause-left : goal.returns-in-Some-clause-left
returns-in-Some-clause-left g c =
    let first : AreLeft c.args.pickers.now.items 1 c.pop.new.self.items = c.pop.ensures.rest ∙ ap (λ n. take (n - 1) c.args.pickers.now.items) c.args.pickers.now.ok.0 in
    front_again _ _ _ (left_front _ _ 1 first) c.search_lines.ensures.left

pub returns-in-Some-clause-fewer : goal.returns-in-Some-clause-fewer
returns-in-Some-clause-fewer g c =
    let first : AreLeft c.args.pickers.now.items 1 c.pop.new.self.items = c.pop.ensures.rest ∙ ap (λ n. take (n - 1) c.args.pickers.now.items) c.args.pickers.now.ok.0 in
    omega (arith, length_left _ _ 1 first, front_less _ _ c.search_lines.ensures.left)

pub returns-in-Some-clause-taken : goal.returns-in-Some-clause-taken
returns-in-Some-clause-taken g c =
    let first : AreLeft c.args.pickers.now.items 1 c.pop.new.self.items = c.pop.ensures.rest ∙ ap (λ n. take (n - 1) c.args.pickers.now.items) c.args.pickers.now.ok.0 in
    let before : length c.args.pickers.now.items ≡ length c.pop.new.self.items + 1 = omega (arith, length_left _ _ 1 first, c.requires.pickers) in
    let taken : IfOk c.search_lines.result (TakesOthers (min c.args.every c.args.steps) (length c.pop.new.self.items) (length c.search_lines.new.others.items)) = rw c.min.ensures at c.search_lines.ensures.taken in
    both_ok c.search_lines.result (IsOutcome c.args.store.now c.args.vars c.args.steps) (TakesOthers (min c.args.every c.args.steps) (length c.pop.new.self.items) (length c.search_lines.new.others.items)) (TakesPickers c.args.every (length c.args.pickers.now.items) (length c.search_lines.new.others.items)) (λ o is t. takes_first c.args.store.now c.args.vars c.args.steps c.args.every (length c.args.pickers.now.items) (length c.pop.new.self.items) (length c.search_lines.new.others.items) o before is t) c.search_lines.ensures.outcome taken
