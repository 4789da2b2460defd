use Rattle.std.proofs.Common.{sym, ◌∙◌}
use Rattle.rv_asm.proofs.PlacedLemmas.{outside_at, within_all, within_one_more}
use Rattle.rv_asm.proofs.image.assembler.outside_line.Goals as goal

pub returns-then-branch : goal.returns-then-branch
returns-then-branch c =
    outside_at c.args.names.now c.args.placed.now c.placed.item-index c.item-item.result c.placed-test.true c.item-item.is c.placed.invariant (sym c.in_ok-has_outside.ensures ∙ c.if-branch.true)

pub placed-preserved : goal.placed-preserved
placed-preserved c =
    within_one_more c.args.names.now c.args.placed.now c.placed.item-index c.item-item.result c.placed-test.true c.item-item.is c.placed.invariant (sym c.in_ok-has_outside.ensures ∙ c.if-branch.false)

pub returns : goal.returns
returns c = within_all c.args.names.now c.args.placed.now c.placed.item-index c.placed-test.false c.placed.auto.item-index-end c.placed.invariant
