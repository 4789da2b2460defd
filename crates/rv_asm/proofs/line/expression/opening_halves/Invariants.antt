use Rattle.std.proofs.Common.{◌≡◌, ◌-◌, length}
use Rattle.rv_asm.specs.Readings.{items_at, items_up_to}
use Rattle.rv_asm.specs.Expressions.{half_at}
use Rattle.rv_asm.proofs.ItemLemmas.{joined}
use Rattle.rv_asm.proofs.line.expression.opening_halves.Given as goal

abbrev pub invariant-halves : goal.invariant-halves
invariant-halves l = joined l.found (items_up_to half_at (length l.bytes - l._turn) l.rest) ≡ items_at half_at l.bytes
