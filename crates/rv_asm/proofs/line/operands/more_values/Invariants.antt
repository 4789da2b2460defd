use Rattle.std.proofs.Common.{◌≡◌, ◌-◌, length}
use Rattle.rv_asm.specs.Readings.{items_up_to}
use Rattle.rv_asm.specs.Operands.{comma_expr_at, values_from}
use Rattle.rv_asm.proofs.ItemLemmas.{joined}
use Rattle.rv_asm.proofs.line.operands.more_values.Given as goal

abbrev pub invariant-values : goal.invariant-values
invariant-values l = joined l.found (items_up_to comma_expr_at (length l.bytes - l._turn) l.rest) ≡ values_from l.fn.first l.bytes
