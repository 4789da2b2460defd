use Rattle.std.proofs.Common.{◌≡◌, ◌+◌, ◌-◌, List, length, sym, subst}
use Rattle.rv_asm.specs.declared.line.expression.Expr.{Expr}
use Rattle.rv_asm.specs.Readings.{items_up_to}
use Rattle.rv_asm.specs.Operands.{comma_expr_at, values_from}
use Rattle.rv_asm.proofs.ItemLemmas.{items_more, joined}
use Rattle.rv_asm.proofs.line.operands.more_values.Goals as goal

pub values-preserved : goal.values-preserved
values-preserved c =
    let more = items_more comma_expr_at (length c.args.bytes.now) c.values._turn c.values.rest.now c.in-Ok.after.now c.in-Ok.value c.values.found (values_from c.args.first c.args.bytes.now) c.values-test.true c.in-Ok.ensures c.values.invariant in
    subst (λ (found : List Expr). joined found (items_up_to comma_expr_at (length c.args.bytes.now - (c.values._turn + 1)) c.in-Ok.after.now) ≡ values_from c.args.first c.args.bytes.now) (sym c.in_ok-push-in-Ok.ensures.ok) more
