use Rattle.std.proofs.Common.{◌≡◌, ◌-◌, length}
use Rattle.rv_asm.specs.Readings.{items_at, items_up_to}
use Rattle.rv_asm.specs.SourceLines.{label_at}
use Rattle.rv_asm.proofs.ItemLemmas.{joined}
use Rattle.rv_asm.proofs.line.source_line.labels.Given as goal

abbrev pub invariant-labels : goal.invariant-labels
invariant-labels l = joined l.found (items_up_to label_at (length l.bytes - l._turn) l.rest) ≡ items_at label_at l.bytes
