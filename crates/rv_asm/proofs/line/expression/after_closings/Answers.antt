use Rattle.rv_asm.proofs.ItemLemmas.{closed_fails, closed_more}
use Rattle.rv_asm.proofs.line.expression.after_closings.Goals as goal

pub returns-in-Err : goal.returns-in-Err
returns-in-Err c = closed_fails c.in-Err.unread c.args.halves.now c.halves._half-index c.halves.rest.now _ c.halves-test.true c.in-Err.ensures c.halves.invariant

pub halves-preserved : goal.halves-preserved
halves-preserved c = closed_more c.args.halves.now c.halves._half-index c.halves.rest.now c.in-Ok.after.now _ c.halves-test.true c.in-Ok.ensures c.halves.invariant
