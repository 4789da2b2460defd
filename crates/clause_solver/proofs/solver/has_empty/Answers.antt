use Rattle.std.proofs.Common.{◌≡◌, ◌≢◌, ◌<◌, [], length, sym, ◌∙◌, arith}
use Rattle.std.proofs.lemmas.Bool.{eqb-true}
use Rattle.std.proofs.lemmas.List.{nil_from_length}
use Rattle.std.proofs.lemmas.Option.{get_or_from_slice_get, slice_get_within}
use Rattle.clause_solver.proofs.PropagationFacts.{all_at}
use Rattle.clause_solver.proofs.solver.has_empty.Goals as goal

pub returns-then-is_empty-clause-found : goal.returns-then-is_empty-clause-found
returns-then-is_empty-clause-found c =
    let none : length c.get.result.now ≡ 0 = eqb-true _ _ (sym c.is_empty.ensures ∙ c.if-is_empty.true) in
    (c.seeking.id, omega (arith, c.count-id-end.ensures.count), get_or_from_slice_get _ c.seeking.id _ [] c.get.ensures.clause ∙ nil_from_length _ none)

pub returns-clause-found : goal.returns-clause-found
returns-clause-found c = all_at (λ x. x ≢ []) c.args.store.now (λ k x e. c.seeking.invariant k x (let lt : k < length c.args.store.now = slice_get_within c.args.store.now k x e in omega (arith, c.count-id-end.ensures.count)) e)
