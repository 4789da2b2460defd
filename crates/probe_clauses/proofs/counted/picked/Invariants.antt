use Rattle.std.proofs.Common.{◌≡◌, ◌++◌, drop}
use Rattle.probe_clauses.specs.Rows.{picked}
use Rattle.probe_clauses.proofs.counted.picked.Given as goal

abbrev pub invariant-places : goal.invariant-places
invariant-places l = l.list ++ picked (drop l.i l.wanted) (drop l.i l.signals) ≡ picked l.wanted l.signals
