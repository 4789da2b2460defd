use Rattle.clause_builds.proofs.Leaving.{all_left, first_fits}
use Rattle.node_clauses.specs.Selectors.{selectors}
use Rattle.node_clauses.proofs.SelectorLemmas.{places_set, selectors_made}
use Rattle.node_clauses.proofs.selectors.selectors.Goals as goal

pub add_places-requires-clause-fits : goal.add_places-requires-clause-fits
add_places-requires-clause-fits c = first_fits _ _ (all_left c.args.form.now (selectors c.args.numbers.now)) c.requires

pub differ_from_others-requires : goal.differ_from_others-requires
differ_from_others-requires c =
    first_fits _ _ (places_set c.args.form.now c.add_places.new.form c.args.numbers.now c.add_places.new.selected c.add_places.ensures.formula c.add_places.ensures.signals) c.requires

pub returns-clause-signals : goal.returns-clause-signals
returns-clause-signals c =
    (selectors_made c.args.form.now c.add_places.new.form c.differ_from_others.new.form c.args.numbers.now c.add_places.new.selected c.add_places.ensures.formula c.add_places.ensures.signals c.in_ok-differ_from_others.ensures).0

pub returns-clause-formula : goal.returns-clause-formula
returns-clause-formula c =
    (selectors_made c.args.form.now c.add_places.new.form c.differ_from_others.new.form c.args.numbers.now c.add_places.new.selected c.add_places.ensures.formula c.add_places.ensures.signals c.in_ok-differ_from_others.ensures).1
