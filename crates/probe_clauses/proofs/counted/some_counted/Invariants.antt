use Rattle.std.proofs.Common.{◌≡◌, take}
use Rattle.probe_clauses.specs.Rows.{some_counted}
use Rattle.probe_clauses.proofs.counted.some_counted.Given as goal

abbrev pub invariant-counts : goal.invariant-counts
invariant-counts l = l.list ≡ some_counted (take l.counted-index l.all)
