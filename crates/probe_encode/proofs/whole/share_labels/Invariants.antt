use Rattle.std.proofs.Common.{◌≡◌, map}
use Rattle.std.specs.List.{range_with_len}
use Rattle.coco_model.specs.Labels.{share_label}
use Rattle.probe_encode.proofs.whole.share_labels.Given as goal

abbrev pub invariant-shares : goal.invariant-shares
invariant-shares l = l.labels ≡ map (λ i. share_label l.secret i l.bit) (range_with_len 0 l.share)
