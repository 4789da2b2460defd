-- the lines so far are those of the members so far
use Rattle.std.proofs.Common.{◌≡◌, ◌++◌, take, flat_map}
use Rattle.leak_report.specs.Labels.{spaced_label}
use Rattle.leak_report.proofs.finding.add_labels.Given as goal

abbrev pub invariant-labels : goal.invariant-labels
invariant-labels l = l.text.items ≡ l.initial.text.items ++ flat_map (spaced_label l.table) (take l.label-index l.labels)
