use Rattle.std.proofs.Common.{slice_set}
use Rattle.circuit_clauses.specs.declared.signal.Signal.{Signal}
use Rattle.clause_builds.specs.Builds.{done}
use Rattle.clause_builds.proofs.Leaving.{all_left, first_fits, next_left, none_left}
use Rattle.node_clauses.specs.Selectors.{add_place, known_place, known_or_fresh}
use Rattle.node_clauses.proofs.selectors.add_place.Goals as goal

pub known_or_fresh-requires : goal.known_or_fresh-requires
known_or_fresh-requires c =
    rw c.known_place.ensures (first_fits _ _ (all_left c.args.form.now (add_place c.args.numbers.now c.args.place c.args.selected.now)) c.requires.fits)

pub returns-clause-signals : goal.returns-clause-signals
returns-clause-signals c =
    let row = c.args.selected.now in
    let place = c.args.place in
    (none_left (slice_set row place c.known_or_fresh.result)
    (next_left (known_or_fresh (known_place c.args.numbers.now row place)) (λ (s : Signal). done (slice_set row place s)) c.known_or_fresh.new.form c.known_or_fresh.result
    (all_left c.args.form.now (add_place c.args.numbers.now place row)) (rw c.known_place.ensures at c.known_or_fresh.ensures.formula) (rw c.known_place.ensures at c.known_or_fresh.ensures.signal))).0

pub returns-clause-formula : goal.returns-clause-formula
returns-clause-formula c =
    let row = c.args.selected.now in
    let place = c.args.place in
    (none_left (slice_set row place c.known_or_fresh.result)
    (next_left (known_or_fresh (known_place c.args.numbers.now row place)) (λ (s : Signal). done (slice_set row place s)) c.known_or_fresh.new.form c.known_or_fresh.result
    (all_left c.args.form.now (add_place c.args.numbers.now place row)) (rw c.known_place.ensures at c.known_or_fresh.ensures.formula) (rw c.known_place.ensures at c.known_or_fresh.ensures.signal))).1
