use Rattle.std.proofs.Common.{sym, ◌∙◌, arith}
use Rattle.pickers.specs.Choices.{is_open}
use Rattle.pickers.proofs.Listings.{find_here, find_more}
use Rattle.pickers.proofs.listed.first_listed.Goals as goal

pub returns-then-is_open-clause-first : goal.returns-then-is_open-clause-first
returns-then-is_open-clause-first c =
    sym (find_here (is_open c.args.unset.now) c.args.order.now c.seeking.var-index 0 (omega arith) c.seeking.invariant (sym c.is_open.ensures.test ∙ c.if-is_open.true))

pub seeking-preserved : goal.seeking-preserved
seeking-preserved c =
    find_more (is_open c.args.unset.now) c.args.order.now c.seeking.var-index 0 (omega arith) c.seeking.invariant (sym c.is_open.ensures.test ∙ c.if-is_open.false)
