use Rattle.std.proofs.Common.{sym, ap, ◌∙◌, subst, arith}
use Rattle.circuit_clauses.specs.Signals.{negated}
use Rattle.circuit_clauses.specs.Formulas.{Fits, extended}
use Rattle.tally_clauses.specs.Tallies.{bounds}
use Rattle.tally_clauses.proofs.Turns.{bounds_turn, bounds_fits, bounds_ended}
use Rattle.tally_clauses.proofs.merge.bound.Goals as goal

pub demand-requires : goal.demand-requires
demand-requires c =
    bounds_fits c.bounding.form c.negated.result c.negated-in-bounding.result c.args.ones.now c.args.others.now c.args.limit c.bounding.i (omega arith) (omega arith) c.negated.ensures (c.negated-in-bounding.ensures ∙ ap negated c.at_least.ensures) c.bounding.invariant.fits

pub bounding-preserved : goal.bounding-preserved
bounding-preserved c =
    let inv = c.bounding.invariant in
    let t = bounds_turn c.bounding.form c.demand.new.self c.negated.result c.negated-in-bounding.result c.args.ones.now c.args.others.now c.args.limit c.bounding.i (omega arith) (omega arith) c.negated.ensures (c.negated-in-bounding.ensures ∙ ap negated c.at_least.ensures) c.in_ok-demand.ensures.ok in
    record { formula = t ∙ inv.formula; fits = subst Fits (sym t) inv.fits }

pub returns : goal.returns
returns c =
    record { formula = bounds_ended c.bounding.form (extended c.args.form.now (bounds c.args.ones.now c.args.others.now c.args.limit)) c.args.ones.now c.args.others.now c.args.limit c.bounding.i (omega arith) c.bounding.invariant.formula }
