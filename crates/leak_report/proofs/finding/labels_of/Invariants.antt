-- the labels so far are those that were gone over
use Rattle.std.proofs.Common.{◌≡◌, ℕ, map, Bor}
use Rattle.leak_report.proofs.finding.labels_of.Given as goal

abbrev pub invariant-labels : goal.invariant-labels
invariant-labels l = l.labels.items ≡ map (λ (b : Bor ℕ). b.now) l.yielded
