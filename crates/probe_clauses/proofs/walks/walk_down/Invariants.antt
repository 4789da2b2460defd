use Rattle.std.proofs.Common.{drop}
use Rattle.clause_builds.specs.Builds.{through}
use Rattle.clause_builds.proofs.Leaving.{IsLeft}
use Rattle.probe_clauses.specs.Probings.{probing_of}
use Rattle.probe_clauses.specs.Times.{times_of}
use Rattle.probe_clauses.specs.Walks.{pass_on, walk_down}
use Rattle.probe_clauses.proofs.walks.walk_down.Given as goal

abbrev pub invariant-cells : goal.invariant-cells
invariant-cells l =
    let run = probing_of l.run in
    let times = times_of l.times in
    IsLeft l.fn.form (walk_down run times l.fn.row) l.form (through (pass_on run times) (drop l.i run.cells) l.row)
