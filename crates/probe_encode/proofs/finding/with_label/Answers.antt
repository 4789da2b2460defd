use Rattle.std.proofs.Common.{ℕ, List, [], ◌∷◌, subst}
use Rattle.coco_base.specs.LabelSets.{IsUnion}
use Rattle.probe_encode.proofs.Read.{union_last}
use Rattle.probe_encode.proofs.finding.with_label.Goals as goal

pub returns : goal.returns
returns c =
    let set = c.args.set.now in
    let union : IsUnion set (c.args.label ∷ []) c.in_ok-more.more = subst (λ (one : List ℕ). IsUnion set one c.in_ok-more.more) c.in_ok-one.ensures c.in_ok-more.ensures in
    union_last set c.in_ok-more.more c.args.label c.len-before.ensures.ascending c.len-after.ensures.ascending c.requires union
