use Rattle.std.proofs.Common.{◌≡◌, ℕ, ◌+◌, ◌-◌, List, length, sym, subst}
use Rattle.rv_asm.specs.Readings.{items_at, items_up_to}
use Rattle.rv_asm.specs.SourceLines.{label_at}
use Rattle.rv_asm.proofs.ItemLemmas.{items_more, joined}
use Rattle.rv_asm.proofs.line.source_line.labels.Goals as goal

pub labels-preserved : goal.labels-preserved
labels-preserved c =
    let more = items_more label_at (length c.args.bytes.now) c.labels._turn c.labels.rest.now c.in-Ok.after.now c.in-Ok.name c.labels.found (items_at label_at c.args.bytes.now) c.labels-test.true c.in-Ok.ensures c.labels.invariant in
    subst (λ (found : List (List ℕ)). joined found (items_up_to label_at (length c.args.bytes.now - (c.labels._turn + 1)) c.in-Ok.after.now) ≡ items_at label_at c.args.bytes.now) (sym c.in_ok-push-in-Ok.ensures.ok) more
