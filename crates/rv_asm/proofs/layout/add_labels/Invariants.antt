use Rattle.std.proofs.Common.{◌≡◌, drop, length, take}
use Rattle.rv_asm.specs.Layouts.{with_labels}
use Rattle.rv_asm.proofs.layout.add_labels.Given as goal

abbrev pub invariant-labels : goal.invariant-labels
invariant-labels l = (with_labels l.names l.here (drop l.label-index l.labels) ≡ with_labels l.fn.names l.here l.labels) × (take (length l.fn.names) l.names ≡ l.fn.names)
