use Rattle.std.proofs.Common.{drop}
use Rattle.std.specs.List.{range_with_len}
use Rattle.clause_builds.proofs.Leaving.{IsLeft}
use Rattle.clause_builds.proofs.Lists.{each_onto}
use Rattle.probe_clauses.specs.Probings.{probing_of}
use Rattle.probe_clauses.specs.Passes.{probes_in, probe_rows}
use Rattle.probe_clauses.proofs.probes.probe_rows.Given as goal

abbrev pub invariant-cycles : goal.invariant-cycles
invariant-cycles l =
    let run = probing_of l.run in
    IsLeft l.fn.form (probe_rows run) l.form (each_onto (probes_in run) (drop l._cycle (range_with_len 0 run.cycles)) l.cycles)
