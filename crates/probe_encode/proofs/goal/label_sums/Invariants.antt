use Rattle.std.proofs.Common.{drop, length}
use Rattle.std.specs.List.{range_with_len}
use Rattle.clause_builds.specs.Builds.{through}
use Rattle.clause_builds.proofs.Leaving.{IsLeft}
use Rattle.probe_encode.specs.Goals.{label_sum, label_sums}
use Rattle.probe_encode.proofs.goal.label_sums.Given as goal

abbrev pub invariant-labels : goal.invariant-labels
invariant-labels l =
    IsLeft l.fn.form (label_sums l.variables l.totals) l.form
    (through (label_sum l.variables l.totals) (drop l.place (range_with_len 0 (length l.variables))) tt)
