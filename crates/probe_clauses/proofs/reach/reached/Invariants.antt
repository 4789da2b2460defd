use Rattle.std.proofs.Common.{drop}
use Rattle.std.specs.List.{range_with_len}
use Rattle.clause_builds.proofs.Leaving.{IsLeft}
use Rattle.clause_builds.proofs.Lists.{each_onto}
use Rattle.probe_clauses.specs.Probings.{probing_of}
use Rattle.probe_clauses.specs.Passes.{reached_in, reached}
use Rattle.probe_clauses.proofs.reach.reached.Given as goal

abbrev pub invariant-cycles : goal.invariant-cycles
invariant-cycles l =
    let run = probing_of l.run in
    IsLeft l.fn.form (reached run l.fn.active) l.form (each_onto (reached_in run l.active) (drop l.cycle (range_with_len 0 run.cycles)) l.rows)
