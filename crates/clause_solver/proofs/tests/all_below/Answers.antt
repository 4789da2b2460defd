use Rattle.std.proofs.Common.{◌<◌, length, arith}
use Rattle.std.proofs.lemmas.Option.{slice_get_within}
use Rattle.clause_solver.specs.Propagation.{IsOver}
use Rattle.clause_solver.proofs.PropagationFacts.{all_at}
use Rattle.clause_solver.proofs.tests.all_below.Goals as goal

pub returns : goal.returns
returns c = all_at (IsOver c.args.vars) c.args.store.now (λ k x e. c.clauses.invariant k x (let lt : k < length c.args.store.now = slice_get_within c.args.store.now k x e in omega (arith, c.count-id-end.ensures.count)) e)
