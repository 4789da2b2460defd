use Rattle.std.proofs.Common.{◌≡◌, ℕ, ◌<◌, ◌∙◌, ◌++◌, ◌∷◌, [], cond, filter, length, get_or, refl, sym, ap, arith}
use Rattle.std.proofs.lemmas.List.{take_all, get_or_default}
use Rattle.circuit_clauses.specs.Signals.{value}
use Rattle.clause_builds.specs.Rows.{signal_at}
use Rattle.coco_model.specs.Goals.{variable_of}
use Rattle.probe_encode.specs.Readable.{values_of}
use Rattle.probe_encode.proofs.Read.{passed_below}
use Rattle.probe_encode.proofs.Taken.{filter_taken}
use Rattle.probe_encode.proofs.Variables.{found}
use Rattle.probe_encode.proofs.finding.true_labels.Goals as goal

pub add_if-requires : goal.add_if-requires
add_if-requires c other h =
    let labels = c.args.labels.now in
    let is_true = λ (k : ℕ). value (values_of c.args.model.now) (signal_at c.args.variables.now (variable_of labels k)) in
    passed_below is_true labels c.labels.place other c.requires (omega (arith, c.labels-test.true)) (rw c.labels.invariant at h)

pub labels-preserved : goal.labels-preserved
labels-preserved c =
    let labels = c.args.labels.now in
    let i = c.labels.place in
    let l = get_or labels i 0 in
    let lt : i < length labels = omega (arith, c.labels-test.true) in
    let is_true = λ (k : ℕ). value (values_of c.args.model.now) (signal_at c.args.variables.now (variable_of labels k)) in
    let place : variable_of labels l ≡ i = (found labels c.requires l i lt refl).1 in
    let same : c.value-is_in_set.result ≡ is_true l =
    rw c.signal_at.ensures at c.value-is_in_set.ensures ∙ sym (ap (λ k. value (values_of c.args.model.now) (signal_at c.args.variables.now k)) place) in
    c.in_ok-set.ensures ∙ ap (λ b. c.labels.set ++ cond b (l ∷ []) []) same
    ∙ ap (λ ls. ls ++ cond (is_true l) (l ∷ []) []) c.labels.invariant
    ∙ sym (filter_taken is_true labels i l lt (get_or_default labels i 0 l lt))

pub returns : goal.returns
returns c =
    let labels = c.args.labels.now in
    let is_true = λ (k : ℕ). value (values_of c.args.model.now) (signal_at c.args.variables.now (variable_of labels k)) in
    c.labels.invariant ∙ ap (filter is_true) (take_all c.labels.place labels (omega (arith, c.labels-test.false)))
