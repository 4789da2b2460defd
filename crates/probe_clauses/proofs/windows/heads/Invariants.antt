use Rattle.std.proofs.Common.{length, drop}
use Rattle.std.specs.List.{range_with_len}
use Rattle.clause_builds.specs.Builds.{through}
use Rattle.clause_builds.proofs.Leaving.{IsLeft}
use Rattle.probe_clauses.specs.Windows.{next_lasting, lasting, heads}
use Rattle.probe_clauses.proofs.windows.heads.Given as goal

abbrev pub invariant-cycles : goal.invariant-cycles
invariant-cycles l =
    IsLeft l.fn.form (heads l.window l.row l.tails) l.form
    (through (next_lasting l.window l.row l.tails) (drop l.cycle (range_with_len 0 (length l.row))) (lasting l.head l.list))
