use Rattle.std.proofs.Common.{◌≡◌, take}
use Rattle.probe_clauses.specs.Rows.{rows_of}
use Rattle.probe_clauses.proofs.counted.rows_of.Given as goal

abbrev pub invariant-rows : goal.invariant-rows
invariant-rows l = l.rows ≡ rows_of (take l.counted-index l.all)
