use Rattle.std.proofs.Common.{ℕ, sym, ◌∙◌, ap, ◌++◌, ◌∷◌, [], arith}
use Rattle.std.proofs.lemmas.List.FromFn.{map-range_with_len_more}
use Rattle.coco_model.specs.Labels.{share_label}
use Rattle.probe_encode.proofs.whole.share_labels.Goals as goal

pub shares-preserved : goal.shares-preserved
shares-preserved c =
    let label : ℕ → ℕ = (λ i. share_label c.args.secret.now i c.args.bit) in
    c.in_ok-push.ensures.ok ∙ (ap (λ labels. labels ++ label c.shares.share ∷ []) c.shares.invariant
    ∙ sym (map-range_with_len_more label 0 c.shares.share c.shares.share (omega arith)))
