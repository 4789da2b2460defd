use Rattle.std.proofs.Common.{drop}
use Rattle.std.specs.List.{range_with_len}
use Rattle.clause_builds.proofs.Leaving.{IsLeft}
use Rattle.clause_builds.proofs.Lists.{each_onto}
use Rattle.probe_clauses.specs.Probings.{probing_of}
use Rattle.probe_clauses.specs.Passes.{pairs_in, pairs}
use Rattle.probe_clauses.proofs.pairs.pairs.Given as goal

abbrev pub invariant-cycles : goal.invariant-cycles
invariant-cycles l =
    let run = probing_of l.run in
    IsLeft l.fn.form (pairs run l.fn.shown) l.form (each_onto (pairs_in run l.shown) (drop l.cycle (range_with_len 0 run.cycles)) l.rows)
