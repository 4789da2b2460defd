use Rattle.std.proofs.Common.{◌≡◌, drop}
use Rattle.rv_asm.specs.Expressions.{closed_at}
use Rattle.rv_asm.proofs.line.expression.after_closings.Given as goal

abbrev pub invariant-halves : goal.invariant-halves
invariant-halves l = closed_at (drop l._half-index l.halves) l.rest ≡ closed_at l.halves l.bytes
