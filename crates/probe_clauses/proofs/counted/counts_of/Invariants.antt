use Rattle.std.proofs.Common.{◌≡◌, take}
use Rattle.probe_clauses.specs.Rows.{counts_of}
use Rattle.probe_clauses.proofs.counted.counts_of.Given as goal

abbrev pub invariant-counts : goal.invariant-counts
invariant-counts l = l.counts ≡ counts_of (take l.counted-index l.all)
