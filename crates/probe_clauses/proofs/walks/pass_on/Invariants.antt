use Rattle.std.proofs.Common.{length, drop}
use Rattle.std.specs.List.{range_with_len}
use Rattle.clause_builds.specs.Builds.{through}
use Rattle.clause_builds.proofs.Leaving.{IsLeft}
use Rattle.probe_clauses.specs.Probings.{probing_of}
use Rattle.probe_clauses.specs.Times.{times_of}
use Rattle.probe_clauses.specs.Walks.{pass_at, pass_on}
use Rattle.probe_clauses.proofs.walks.pass_on.Given as goal

abbrev pub invariant-places : goal.invariant-places
invariant-places l =
    let run = probing_of l.run in
    let times = times_of l.times in
    IsLeft l.fn.form (pass_on run times l.cell l.fn.row) l.form
    (through (pass_at run times l.cell) (drop l.place (range_with_len 0 (length (run.wires l.cell)))) l.row)
