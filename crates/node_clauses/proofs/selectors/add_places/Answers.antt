use Rattle.std.proofs.Common.{arith, sym}
use Rattle.clause_builds.proofs.Leaving.{all_left}
use Rattle.clause_builds.proofs.Lists.{through_fits, through_turn, through_ended}
use Rattle.node_clauses.specs.Choices.{four_places}
use Rattle.node_clauses.specs.Selectors.{add_place, add_places}
use Rattle.node_clauses.proofs.ChoiceLemmas.{four_at}
use Rattle.node_clauses.proofs.selectors.add_places.Goals as goal

pub places-init : goal.places-init
places-init c =
    record { left = all_left c.args.form.now (add_places c.args.numbers.now c.args.selected.now); long = c.requires.places }

pub add_place-requires-clause-fits : goal.add_place-requires-clause-fits
add_place-requires-clause-fits c =
    let p = c.places.place in
    through_fits (add_place c.args.numbers.now) four_places c.places.selected p p c.places.invariant.left (omega arith) (sym (four_at p p (omega arith))) c.requires.fits

pub places-preserved : goal.places-preserved
places-preserved c =
    let p = c.places.place in
    record {
      left = through_turn (add_place c.args.numbers.now) four_places c.places.selected p p c.add_place.new.form c.add_place.new.selected c.places.invariant.left (omega arith) (sym (four_at p p (omega arith))) c.add_place.ensures.formula c.add_place.ensures.signals;
      long = c.add_place.ensures.places;
    }

pub returns-clause-signals : goal.returns-clause-signals
returns-clause-signals c =
    (through_ended (add_place c.args.numbers.now) four_places c.places.selected c.places.place c.places.invariant.left (omega arith)).0

pub returns-clause-formula : goal.returns-clause-formula
returns-clause-formula c =
    (through_ended (add_place c.args.numbers.now) four_places c.places.selected c.places.place c.places.invariant.left (omega arith)).1
