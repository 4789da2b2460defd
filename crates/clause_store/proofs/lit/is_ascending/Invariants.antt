use Rattle.clause_store.proofs.Signs.{NeighboursAscend}
use Rattle.clause_store.proofs.lit.is_ascending.Given as goal

abbrev pub invariant-comparing : goal.invariant-comparing
invariant-comparing l = NeighboursAscend l.lits l.i
