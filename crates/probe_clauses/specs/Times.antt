-- Cycles in a row.
use Rattle.std.specs.Prelude.{ℕ, List}
use Rattle.std.specs.List.{range_with_len}
use Rattle.probe_clauses.specs.declared.walks.Times.{Times}

abbrev pub times_of : Times → List ℕ
times_of times = range_with_len times.first times.count
