use Rattle.std.proofs.Common.{◌≡◌, ◌∙◌, ◌<◌, false, length, sym}
use Rattle.std.proofs.lemmas.List.{get_or_default, with_items_is}
use Rattle.std.specs.Vec.{with_items}
use Rattle.circuit_clauses.specs.declared.signal.Signal.TheVariants.{Constant}
use Rattle.clause_builds.specs.Rows.{signal_at}
use Rattle.clause_builds.proofs.Leaving.{all_left, first_fits}
use Rattle.node_clauses.specs.Sums.{add_choice}
use Rattle.node_clauses.proofs.SumLemmas.{selected_left, choice_made, some_number_has}
use Rattle.node_clauses.proofs.sums.add_choice.Goals as goal

pub selectors-requires : goal.selectors-requires
selectors-requires c =
    first_fits _ _ (all_left c.args.form.now (add_choice c.args.numbers.now c.args.operands c.args.place c.args.sums.now)) c.requires.fits

pub add_operands-requires-clause-places : goal.add_operands-requires-clause-places
add_operands-requires-clause-places c j low there =
    rw c.as_mut_slice.ensures.value (rw (sym c.sums.view_is) at (c.requires.operands j low (some_number_has c.args.form.now c.args.numbers.now c.in_ok-selected.selected j c.in_ok-selected.ensures.signals there)))

pub add_operands-requires-clause-fits : goal.add_operands-requires-clause-fits
add_operands-requires-clause-fits c =
    let here : c.args.place < length c.sums.inside.weights.items = rw (sym c.sums.view_is) at c.requires.place in
    let weight : c.index-weight.result.now ≡ signal_at c.sums.inside.weights.items c.args.place = c.index-weight.ensures ∙ get_or_default c.sums.inside.weights.items c.args.place c.index-weight.result.now (Constant false) here in
    let fits = rw (sym c.sums.view_is) at c.requires.fits in
    rw (weight, c.as_mut_slice.ensures.value)
    (first_fits _ _ (selected_left c.args.form.now c.selectors.new.form c.args.numbers.now c.args.operands c.args.place _ c.in_ok-selected.selected c.in_ok-selected.ensures.formula c.in_ok-selected.ensures.signals) fits)

pub returns-clause-sums : goal.returns-clause-sums
returns-clause-sums c =
    let here : c.args.place < length c.sums.inside.weights.items = rw (sym c.sums.view_is) at c.requires.place in
    let weight : c.index-weight.result.now ≡ signal_at c.sums.inside.weights.items c.args.place = c.index-weight.ensures ∙ get_or_default c.sums.inside.weights.items c.args.place c.index-weight.result.now (Constant false) here in
    let made_there = (choice_made c.args.form.now c.selectors.new.form c.add_operands.new.form c.args.numbers.now c.args.operands c.args.place (record { weights = c.sums.inside.weights.items; totals = c.sums.inside.totals.items; selections = c.sums.inside.selections.items }) c.in_ok-selected.selected c.add_operands.new.weights c.in_ok-selected.ensures.formula c.in_ok-selected.ensures.signals
    (rw (weight, c.as_mut_slice.ensures.value) at c.in_ok-add_operands.ensures.formula) (rw (weight, c.as_mut_slice.ensures.value) at c.in_ok-add_operands.ensures.signals)).0 in
    let same : (with_items c.sums.inside.weights c.add_operands.new.weights).items ≡ c.add_operands.new.weights =
    with_items_is c.sums.inside.weights c.add_operands.new.weights (c.in_ok-add_operands.ensures.length ∙ c.as_mut_slice.ensures.len) in
    rw (sym c.sums.view_is, same) made_there

pub returns-clause-formula : goal.returns-clause-formula
returns-clause-formula c =
    let here : c.args.place < length c.sums.inside.weights.items = rw (sym c.sums.view_is) at c.requires.place in
    let weight : c.index-weight.result.now ≡ signal_at c.sums.inside.weights.items c.args.place = c.index-weight.ensures ∙ get_or_default c.sums.inside.weights.items c.args.place c.index-weight.result.now (Constant false) here in
    let made_there = (choice_made c.args.form.now c.selectors.new.form c.add_operands.new.form c.args.numbers.now c.args.operands c.args.place (record { weights = c.sums.inside.weights.items; totals = c.sums.inside.totals.items; selections = c.sums.inside.selections.items }) c.in_ok-selected.selected c.add_operands.new.weights c.in_ok-selected.ensures.formula c.in_ok-selected.ensures.signals
    (rw (weight, c.as_mut_slice.ensures.value) at c.in_ok-add_operands.ensures.formula) (rw (weight, c.as_mut_slice.ensures.value) at c.in_ok-add_operands.ensures.signals)).1 in
    rw (sym c.sums.view_is) made_there
