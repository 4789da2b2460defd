use Rattle.std.proofs.Common.{◌≡◌, ◌∙◌, ◌<◌, List, false, length, sym}
use Rattle.std.proofs.lemmas.List.{get_or_default, with_items_is}
use Rattle.std.specs.Vec.{with_items}
use Rattle.circuit_clauses.specs.declared.signal.Signal.{Signal}
use Rattle.circuit_clauses.specs.declared.signal.Signal.TheVariants.{Constant}
use Rattle.clause_builds.specs.Rows.{signal_at}
use Rattle.clause_builds.proofs.Leaving.{all_left, first_fits}
use Rattle.node_clauses.specs.Sums.{add_at, add_label}
use Rattle.node_clauses.proofs.SumLemmas.{laid, sums_of}
use Rattle.node_clauses.proofs.sums.add_label.Goals as goal

pub add_at-requires-clause-fits : goal.add_at-requires-clause-fits
add_at-requires-clause-fits c =
    let here : c.args.place < length c.sums.inside.weights.items = rw (sym c.sums.view_is) at c.requires.place in
    let weight : c.index-weight.result.now ≡ signal_at c.sums.inside.weights.items c.args.place = c.index-weight.ensures ∙ get_or_default c.sums.inside.weights.items c.args.place c.index-weight.result.now (Constant false) here in
    let fits = rw (sym c.sums.view_is) at c.requires.fits in
    rw (weight, c.as_mut_slice.ensures.value) (first_fits _ _ (all_left c.args.form.now (add_label c.args.total c.args.place (sums_of c.sums.inside.weights.items c.sums.inside.totals.items c.sums.inside.selections.items))) fits)

pub returns-clause-sums : goal.returns-clause-sums
returns-clause-sums c =
    let here : c.args.place < length c.sums.inside.weights.items = rw (sym c.sums.view_is) at c.requires.place in
    let weight : c.index-weight.result.now ≡ signal_at c.sums.inside.weights.items c.args.place = c.index-weight.ensures ∙ get_or_default c.sums.inside.weights.items c.args.place c.index-weight.result.now (Constant false) here in
    let made_there = (laid c.args.form.now c.add_at.new.form (add_at c.args.total (signal_at c.sums.inside.weights.items c.args.place) c.sums.inside.totals.items) (λ (signals : List Signal). sums_of c.sums.inside.weights.items signals c.sums.inside.selections.items) c.add_at.new.totals
    (rw (weight, c.as_mut_slice.ensures.value) at c.in_ok-add_at.ensures.formula) (rw (weight, c.as_mut_slice.ensures.value) at c.in_ok-add_at.ensures.totals)).0 in
    let same : (with_items c.sums.inside.totals c.add_at.new.totals).items ≡ c.add_at.new.totals = with_items_is c.sums.inside.totals c.add_at.new.totals (c.in_ok-add_at.ensures.length ∙ c.as_mut_slice.ensures.len) in
    rw (sym c.sums.view_is, same) made_there

pub returns-clause-formula : goal.returns-clause-formula
returns-clause-formula c =
    let here : c.args.place < length c.sums.inside.weights.items = rw (sym c.sums.view_is) at c.requires.place in
    let weight : c.index-weight.result.now ≡ signal_at c.sums.inside.weights.items c.args.place = c.index-weight.ensures ∙ get_or_default c.sums.inside.weights.items c.args.place c.index-weight.result.now (Constant false) here in
    let made_there = (laid c.args.form.now c.add_at.new.form (add_at c.args.total (signal_at c.sums.inside.weights.items c.args.place) c.sums.inside.totals.items) (λ (signals : List Signal). sums_of c.sums.inside.weights.items signals c.sums.inside.selections.items) c.add_at.new.totals
    (rw (weight, c.as_mut_slice.ensures.value) at c.in_ok-add_at.ensures.formula) (rw (weight, c.as_mut_slice.ensures.value) at c.in_ok-add_at.ensures.totals)).1 in
    rw (sym c.sums.view_is) made_there
