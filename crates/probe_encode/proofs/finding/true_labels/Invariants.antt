use Rattle.std.proofs.Common.{◌≡◌, ℕ, filter, take}
use Rattle.circuit_clauses.specs.Signals.{value}
use Rattle.clause_builds.specs.Rows.{signal_at}
use Rattle.coco_model.specs.Goals.{variable_of}
use Rattle.probe_encode.specs.Readable.{values_of}
use Rattle.probe_encode.proofs.finding.true_labels.Given as goal

abbrev pub invariant-labels : goal.invariant-labels
invariant-labels l =
    let is_true = λ (k : ℕ). value (values_of l.model) (signal_at l.variables (variable_of l.labels k)) in
    l.set ≡ filter is_true (take l.place l.labels)
