use Rattle.std.proofs.Common.{◌≡◌, [], drop}
use Rattle.clause_store.specs.Signs.{Ascends}
use Rattle.circuit_clauses.specs.Signals.{joined}
use Rattle.circuit_clauses.proofs.clauses.join.Given as goal

abbrev pub invariant-joining : goal.invariant-joining
invariant-joining l =
    (joined l.lits.items (drop l.signal-index l.signals) ≡ joined [] l.signals) × Ascends l.lits.items
