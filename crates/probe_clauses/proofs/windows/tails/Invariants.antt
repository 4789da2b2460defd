use Rattle.std.proofs.Common.{◌≡◌, length, drop, reverse}
use Rattle.std.specs.List.{range_with_len}
use Rattle.clause_builds.specs.Builds.{through}
use Rattle.clause_builds.proofs.Leaving.{IsLeft}
use Rattle.probe_clauses.specs.Windows.{next_tail, tails}
use Rattle.probe_clauses.proofs.windows.tails.Given as goal

abbrev pub invariant-cycles : goal.invariant-cycles
invariant-cycles l =
    let cycles = reverse (range_with_len 0 (length l.row)) in
    record {
      left : IsLeft l.fn.form (tails l.window l.row) l.form (through (next_tail l.window l.row) (drop l.i cycles) l.tails.items);
      as_long : length l.tails.items ≡ length l.row;
    }
