use Rattle.std.proofs.Common.{drop}
use Rattle.clause_builds.specs.Builds.{through}
use Rattle.clause_builds.proofs.Leaving.{IsLeft}
use Rattle.probe_encode.specs.Goals.{some_holds}
use Rattle.probe_encode.proofs.goal.demand_all.Given as goal

abbrev pub invariant-clauses : goal.invariant-clauses
invariant-clauses l =
    IsLeft l.fn.form (through some_holds l.clauses tt) l.form (through some_holds (drop l.clause-index l.clauses) tt)
