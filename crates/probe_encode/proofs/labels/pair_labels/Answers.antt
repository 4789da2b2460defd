use Rattle.std.proofs.Common.{◌≡◌, ◌∙◌, ◌++◌, length, arith, ap, sym, false, subst, filter, cond, ◌∷◌, []}
use Rattle.std.specs.List.{range_with_len}
use Rattle.std.specs.List.Sorted.{IsStrictlyIncreasing}
use Rattle.std.proofs.lemmas.List.{length-replicate}
use Rattle.coco_model.specs.Labels.{label_count}
use Rattle.probe_encode.specs.Labels.{has_label}
use Rattle.probe_encode.proofs.Marked.{filter_more, is_marked, ascending_filter}
use Rattle.probe_encode.proofs.labels.pair_labels.Goals as goal

pub labels-preserved : goal.labels-preserved
labels-preserved c =
    let has = has_label c.args.source.now.run c.args.source.now.cones.now.cones in
    let count = label_count c.args.source.now.unrolled.now.table c.args.source.now.unrolled.now.cycles in
    let i = c.labels.label in
    let e : c.index.result.now ≡ has i = c.index.ensures ∙ is_marked count c.in_ok-marks.marks.items has i c.index.result.now c.in_ok-marks.ensures (omega arith) in
    c.in_ok-push_marked.ensures ∙ (ap (λ b. c.labels.labels.items ++ cond b (i ∷ []) []) e
    ∙ (ap (λ ls. ls ++ cond (has i) (i ∷ []) []) c.labels.invariant ∙ sym (filter_more has i)))

pub returns-clause-labels : goal.returns-clause-labels
returns-clause-labels c =
    let has = has_label c.args.source.now.run c.args.source.now.cones.now.cones in
    let count = label_count c.args.source.now.unrolled.now.table c.args.source.now.unrolled.now.cycles in
    let len : length c.in_ok-marks.marks.items ≡ count = c.in_ok-marks.ensures.as_long ∙ length-replicate count false in
    let e : c.labels.label ≡ count = omega arith in
    c.labels.invariant ∙ ap (λ n. filter has (range_with_len 0 n)) e

pub returns-clause-ascending : goal.returns-clause-ascending
returns-clause-ascending c =
    let has = has_label c.args.source.now.run c.args.source.now.cones.now.cones in
    subst IsStrictlyIncreasing (sym c.labels.invariant) (ascending_filter has c.labels.label)
