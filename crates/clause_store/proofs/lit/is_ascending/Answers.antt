use Rattle.std.proofs.Common.{refl, arith}
use Rattle.clause_store.proofs.Signs.{ascends_from_neighbours}
use Rattle.clause_store.proofs.lit.is_ascending.Goals as goal

pub returns : goal.returns
returns c = (λ _. ascends_from_neighbours _ c.comparing.i (omega arith) c.comparing.invariant, λ _. refl)
