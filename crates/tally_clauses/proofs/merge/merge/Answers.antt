use Rattle.std.proofs.Common.{sym, ◌∙◌}
use Rattle.tally_clauses.proofs.Turns.{filled, merge_fits, merge_made}
use Rattle.tally_clauses.proofs.merge.merge.Goals as goal

pub places-requires : goal.places-requires
places-requires c =
    (merge_fits c.args.form.now c.args.limit c.args.ones.now c.args.others.now c.min-count.result (filled c.args.others.now (sym c.if-is_empty.false ∙ c.is_empty.ensures)) c.min-count.ensures c.requires).0

pub bound-requires : goal.bound-requires
bound-requires c =
    rw c.in_ok-tally.ensures.formula (merge_fits c.args.form.now c.args.limit c.args.ones.now c.args.others.now c.min-count.result (filled c.args.others.now (sym c.if-is_empty.false ∙ c.is_empty.ensures)) c.min-count.ensures c.requires).1

pub returns-clause-tally : goal.returns-clause-tally
returns-clause-tally c =
    c.in_ok-tally.ensures.tally
    ∙ (merge_made c.args.form.now c.bound.new.form c.args.limit c.args.ones.now c.args.others.now c.min-count.result (filled c.args.others.now (sym c.if-is_empty.false ∙ c.is_empty.ensures)) c.min-count.ensures (rw c.in_ok-tally.ensures.formula at c.in_ok-bound.ensures.formula)).0

pub returns-clause-formula : goal.returns-clause-formula
returns-clause-formula c =
    (merge_made c.args.form.now c.bound.new.form c.args.limit c.args.ones.now c.args.others.now c.min-count.result (filled c.args.others.now (sym c.if-is_empty.false ∙ c.is_empty.ensures)) c.min-count.ensures (rw c.in_ok-tally.ensures.formula at c.in_ok-bound.ensures.formula)).1
