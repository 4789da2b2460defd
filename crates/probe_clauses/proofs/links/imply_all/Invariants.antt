use Rattle.std.proofs.Common.{drop}
use Rattle.clause_builds.specs.Builds.{through}
use Rattle.clause_builds.proofs.Leaving.{IsLeft}
use Rattle.probe_clauses.specs.Passes.{imply, imply_all}
use Rattle.probe_clauses.proofs.links.imply_all.Given as goal

abbrev pub invariant-actives : goal.invariant-actives
invariant-actives l =
    IsLeft l.fn.form (imply_all l.group l.actives) l.form (through (imply l.group) (drop l.active-index l.actives) tt)
