use Rattle.std.proofs.Common.{ℕ, ◌<◌, ◌≤◌, length, get_or}
use Rattle.clause_store.specs.declared.lit.Lit.{Lit}
use Rattle.circuit_clauses.proofs.clauses.place_of.Given as goal

abbrev pub invariant-walking : goal.invariant-walking
invariant-walking l =
    (l.place ≤ length l.lits) × ((k : ℕ) (d : Lit) → l.place ≤ k → k < length l.lits → l.var ≤ (get_or l.lits k d).var)

abbrev pub decreases-walking : goal.decreases-walking
decreases-walking l = l.place
