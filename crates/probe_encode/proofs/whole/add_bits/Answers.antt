use Rattle.std.proofs.Common.{sym, ◌∙◌, ap, map, ◌++◌, ◌∷◌, [], append_assoc, arith}
use Rattle.std.specs.List.{range_with_len}
use Rattle.std.proofs.lemmas.List.FromFn.{map-range_with_len_more}
use Rattle.coco_model.specs.Labels.{share_labels}
use Rattle.probe_encode.proofs.ShareLemmas.{small_share}
use Rattle.probe_encode.proofs.whole.add_bits.Goals as goal

pub share_labels-requires : goal.share_labels-requires
share_labels-requires c = λ share below. small_share c.args.secret.now c.bits.bit share c.bits-test.true below c.requires

pub bits-preserved : goal.bits-preserved
bits-preserved c =
    let shares = share_labels c.args.secret.now in
    let bit = c.bits.bit in
    c.in_ok-push.ensures.ok ∙ (ap (λ labels. c.bits.sets ++ labels ∷ []) c.in_ok-labels.ensures
    ∙ (ap (λ sets. sets ++ shares bit ∷ []) c.bits.invariant
    ∙ (append_assoc c.args.sets.now (map shares (range_with_len 0 bit)) (shares bit ∷ [])
    ∙ ap (λ sets. c.args.sets.now ++ sets) (sym (map-range_with_len_more shares 0 bit bit (omega arith))))))
