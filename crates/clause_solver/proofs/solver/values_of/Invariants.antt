use Rattle.std.proofs.Common.{◌≡◌, ℕ, ◌<◌, length, false, get_or, unwrap_or}
use Rattle.clause_store.specs.Signs.{sign_of}
use Rattle.clause_solver.proofs.solver.values_of.Given as goal

abbrev pub invariant-valuing : goal.invariant-valuing
invariant-valuing l = record {
  len : length l.values ≡ l.var;
  values : (v : ℕ) → v < l.var → get_or l.values v false ≡ unwrap_or (sign_of l.trail.lits v) false;
}
