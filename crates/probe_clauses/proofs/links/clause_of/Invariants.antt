use Rattle.std.proofs.Common.{◌≡◌, ◌∷◌, take}
use Rattle.circuit_clauses.specs.Signals.{negated}
use Rattle.probe_clauses.proofs.links.clause_of.Given as goal

abbrev pub invariant-actives : goal.invariant-actives
invariant-actives l = l.clause ≡ negated l.fn.group ∷ take l.active-index l.actives
