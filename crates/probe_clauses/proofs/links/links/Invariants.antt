use Rattle.std.proofs.Common.{drop}
use Rattle.std.specs.List.{range_with_len}
use Rattle.clause_builds.specs.Builds.{through}
use Rattle.clause_builds.proofs.Leaving.{IsLeft}
use Rattle.probe_clauses.specs.Probings.{probing_of}
use Rattle.probe_clauses.specs.Passes.{link_of, links}
use Rattle.probe_clauses.proofs.links.links.Given as goal

abbrev pub invariant-bits : goal.invariant-bits
invariant-bits l =
    let run = probing_of l.run in
    IsLeft l.fn.form (links run l.group l.active) l.form (through (link_of run l.group l.active) (drop l.bit (range_with_len 0 run.bits)) tt)
