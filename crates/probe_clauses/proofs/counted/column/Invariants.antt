use Rattle.std.proofs.Common.{◌≡◌, take}
use Rattle.probe_clauses.specs.Rows.{column}
use Rattle.probe_clauses.proofs.counted.column.Given as goal

abbrev pub invariant-rows : goal.invariant-rows
invariant-rows l = l.list ≡ column (take l.counted-index l.all) l.place
