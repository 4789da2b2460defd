use Rattle.std.proofs.Common.{sym, ◌∙◌, subst, arith}
use Rattle.circuit_clauses.specs.Formulas.{Fits}
use Rattle.tally_clauses.proofs.Turns.{places_turn, places_fits}
use Rattle.tally_clauses.proofs.merge.places.Goals as goal

pub place-requires : goal.place-requires
place-requires c =
    places_fits c.placing.form c.args.ones.now c.args.others.now c.args.count c.placing.done (omega arith) c.placing.invariant.fits

pub placing-preserved : goal.placing-preserved
placing-preserved c =
    let inv = c.placing.invariant in
    let t = places_turn c.placing.form c.place.new.form c.placing.tally c.push.new.self c.in_ok-at.at c.args.ones.now c.args.others.now c.args.count c.placing.done (omega arith) c.in_ok-at.ensures.formula c.in_ok-at.ensures.signal c.in_ok-push.ensures.ok in
    record {
      tally = t.0 ∙ inv.tally;
      formula = t.1 ∙ inv.formula;
      fits = subst Fits (sym t.1) inv.fits;
    }
