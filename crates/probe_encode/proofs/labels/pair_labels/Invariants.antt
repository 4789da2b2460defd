use Rattle.std.proofs.Common.{◌≡◌, filter}
use Rattle.std.specs.List.{range_with_len}
use Rattle.probe_encode.specs.Labels.{has_label}
use Rattle.probe_encode.proofs.labels.pair_labels.Given as goal

abbrev pub invariant-labels : goal.invariant-labels
invariant-labels l = l.labels.items ≡ filter (has_label l.source.run l.source.cones.now.cones) (range_with_len 0 l.label)
