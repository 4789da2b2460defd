use Rattle.std.proofs.Common.{drop}
use Rattle.std.specs.List.{range_with_len}
use Rattle.clause_builds.proofs.Leaving.{IsLeft}
use Rattle.clause_builds.proofs.Lists.{each_onto}
use Rattle.probe_clauses.specs.Probings.{probing_of}
use Rattle.probe_clauses.specs.Passes.{pair_of, pairs_in}
use Rattle.probe_clauses.proofs.pairs.pairs_in.Given as goal

abbrev pub invariant-bits : goal.invariant-bits
invariant-bits l =
    let run = probing_of l.run in
    IsLeft l.fn.form (pairs_in run l.fn.shown l.fn.cycle) l.form (each_onto (pair_of run l.shown l.cycle) (drop l.bit (range_with_len 0 run.bits)) l.row)
