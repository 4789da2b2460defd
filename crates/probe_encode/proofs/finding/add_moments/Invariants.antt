use Rattle.std.proofs.Common.{◌≡◌, ℕ, ◌++◌, map, filter, take, length}
use Rattle.std.specs.List.{range_with_len}
use Rattle.circuit_clauses.specs.Signals.{value}
use Rattle.clause_builds.specs.Rows.{signal_at}
use Rattle.probe_encode.specs.Readings.{moment}
use Rattle.probe_encode.specs.Readable.{values_of}
use Rattle.probe_encode.proofs.finding.add_moments.Given as goal

abbrev pub invariant-bits : goal.invariant-bits
invariant-bits l =
    let is_true = λ (b : ℕ). value (values_of l.model) (signal_at l.row b) in
    l.moments ≡ l.fn.moments ++ map (moment l.cycle) (filter is_true (take l.bit (range_with_len 0 (length l.row))))
