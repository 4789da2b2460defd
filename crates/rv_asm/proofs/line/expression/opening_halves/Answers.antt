use Rattle.std.proofs.Common.{◌≡◌, ◌+◌, ◌-◌, List, length, sym, subst}
use Rattle.rv_asm.specs.declared.line.expression.Half.{Half}
use Rattle.rv_asm.specs.Readings.{items_at, items_up_to}
use Rattle.rv_asm.specs.Expressions.{half_at}
use Rattle.rv_asm.proofs.ItemLemmas.{items_more, joined}
use Rattle.rv_asm.proofs.line.expression.opening_halves.Goals as goal

pub halves-preserved : goal.halves-preserved
halves-preserved c =
    let more = items_more half_at (length c.args.bytes.now) c.halves._turn c.halves.rest.now c.in-Ok.after.now c.in-Ok.half c.halves.found (items_at half_at c.args.bytes.now) c.halves-test.true c.in-Ok.ensures c.halves.invariant in
    subst (λ (found : List Half). joined found (items_up_to half_at (length c.args.bytes.now - (c.halves._turn + 1)) c.in-Ok.after.now) ≡ items_at half_at c.args.bytes.now) (sym c.in_ok-push-in-Ok.ensures.ok) more
