use Rattle.std.proofs.Common.{ℕ, drop, true}
use Rattle.clause_builds.specs.Builds.{fresh}
use Rattle.clause_builds.proofs.Leaving.{IsLeft}
use Rattle.clause_builds.proofs.Lists.{each_onto}
use Rattle.probe_encode.specs.Goals.{label_variables}
use Rattle.probe_encode.proofs.goal.label_variables.Given as goal

abbrev pub invariant-labels : goal.invariant-labels
invariant-labels l =
    IsLeft l.fn.form (label_variables l.labels) l.form (each_onto (λ (k : ℕ). fresh true) (drop l._label-index l.labels) l.variables)
