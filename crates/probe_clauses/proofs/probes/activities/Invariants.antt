use Rattle.std.proofs.Common.{drop}
use Rattle.std.specs.List.{range_with_len}
use Rattle.clause_builds.proofs.Leaving.{IsLeft}
use Rattle.clause_builds.proofs.Lists.{each_onto}
use Rattle.probe_clauses.specs.Probings.{probing_of}
use Rattle.probe_clauses.specs.Passes.{activities}
use Rattle.probe_clauses.specs.Windows.{windowed}
use Rattle.probe_clauses.specs.Rows.{column}
use Rattle.probe_clauses.proofs.probes.activities.Given as goal

abbrev pub invariant-bits : goal.invariant-bits
invariant-bits l =
    let run = probing_of l.run in
    IsLeft l.fn.form (activities run l.fn.cycles) l.form (each_onto (λ b. windowed run.window (column l.cycles b)) (drop l.bit (range_with_len 0 run.bits)) l.rows)
