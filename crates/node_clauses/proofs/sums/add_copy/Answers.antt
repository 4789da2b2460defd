use Rattle.std.proofs.Common.{◌≡◌, ◌∙◌, ◌<◌, List, true, false, length, sym, ap}
use Rattle.std.proofs.lemmas.List.{get_or_default, with_items_is}
use Rattle.std.specs.Vec.{with_items}
use Rattle.circuit_clauses.specs.declared.signal.Signal.{Signal}
use Rattle.circuit_clauses.specs.declared.signal.Signal.TheVariants.{Constant}
use Rattle.clause_builds.specs.Rows.{signal_at, xor_into}
use Rattle.clause_builds.proofs.Leaving.{all_left, first_fits}
use Rattle.node_clauses.specs.Sums.{add_copy}
use Rattle.node_clauses.proofs.SumLemmas.{laid, sums_of, length-xor_into}
use Rattle.node_clauses.proofs.sums.add_copy.Goals as goal

pub xor_into-requires-clause-fits : goal.xor_into-requires-clause-fits
xor_into-requires-clause-fits c =
    let here : c.args.place < length c.sums.inside.weights.items = rw (sym c.sums.view_is) at c.requires.place in
    let weight : c.index-weight.result.now ≡ signal_at c.sums.inside.weights.items c.args.place = c.index-weight.ensures ∙ get_or_default c.sums.inside.weights.items c.args.place c.index-weight.result.now (Constant false) here in
    let fits = rw (sym c.sums.view_is) at c.requires.fits in
    rw (weight, c.as_mut_slice.ensures.value) (first_fits _ _ (all_left c.args.form.now (add_copy c.args.origin c.args.place (sums_of c.sums.inside.weights.items c.sums.inside.totals.items c.sums.inside.selections.items))) fits)

pub returns-clause-sums : goal.returns-clause-sums
returns-clause-sums c =
    let here : c.args.place < length c.sums.inside.weights.items = rw (sym c.sums.view_is) at c.requires.place in
    let weight : c.index-weight.result.now ≡ signal_at c.sums.inside.weights.items c.args.place = c.index-weight.ensures ∙ get_or_default c.sums.inside.weights.items c.args.place c.index-weight.result.now (Constant false) here in
    let made_there = (laid c.args.form.now c.xor_into.new.form (xor_into c.sums.inside.weights.items c.args.origin (signal_at c.sums.inside.weights.items c.args.place) (Constant true)) (λ (signals : List Signal). sums_of signals c.sums.inside.totals.items c.sums.inside.selections.items) c.xor_into.new.signals
    (rw (weight, c.as_mut_slice.ensures.value) at c.in_ok-xor_into.ensures.formula) (rw (weight, c.as_mut_slice.ensures.value) at c.in_ok-xor_into.ensures.signals)).0 in
    let same : (with_items c.sums.inside.weights c.xor_into.new.signals).items ≡ c.xor_into.new.signals = with_items_is c.sums.inside.weights c.xor_into.new.signals (ap length c.in_ok-xor_into.ensures.signals ∙ (length-xor_into c.args.form.now c.as_mut_slice.result.now c.args.origin c.index-weight.result.now (Constant true) ∙ c.as_mut_slice.ensures.len)) in
    rw (sym c.sums.view_is, same) made_there

pub returns-clause-formula : goal.returns-clause-formula
returns-clause-formula c =
    let here : c.args.place < length c.sums.inside.weights.items = rw (sym c.sums.view_is) at c.requires.place in
    let weight : c.index-weight.result.now ≡ signal_at c.sums.inside.weights.items c.args.place = c.index-weight.ensures ∙ get_or_default c.sums.inside.weights.items c.args.place c.index-weight.result.now (Constant false) here in
    let made_there = (laid c.args.form.now c.xor_into.new.form (xor_into c.sums.inside.weights.items c.args.origin (signal_at c.sums.inside.weights.items c.args.place) (Constant true)) (λ (signals : List Signal). sums_of signals c.sums.inside.totals.items c.sums.inside.selections.items) c.xor_into.new.signals
    (rw (weight, c.as_mut_slice.ensures.value) at c.in_ok-xor_into.ensures.formula) (rw (weight, c.as_mut_slice.ensures.value) at c.in_ok-xor_into.ensures.signals)).1 in
    rw (sym c.sums.view_is) made_there
