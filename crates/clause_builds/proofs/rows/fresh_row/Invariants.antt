use Rattle.std.proofs.Common.{drop}
use Rattle.clause_builds.specs.Rows.{fresh_row, fresh_if}
use Rattle.clause_builds.proofs.Leaving.{IsLeft}
use Rattle.clause_builds.proofs.Lists.{each_onto}
use Rattle.clause_builds.proofs.rows.fresh_row.Given as goal

abbrev pub invariant-places : goal.invariant-places
invariant-places l =
    IsLeft l.fn.form (fresh_row l.fn.wanted) l.form (each_onto fresh_if (drop l.is_wanted-index l.wanted) l.row)
