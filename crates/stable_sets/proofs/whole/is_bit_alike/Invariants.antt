use Rattle.std.proofs.Common.{◌≡◌, ℕ, ◌<◌}
use Rattle.coco_base.specs.LabelSets.{has}
use Rattle.coco_model.specs.Labels.{share_label}
use Rattle.stable_sets.proofs.whole.is_bit_alike.Given as goal

abbrev pub invariant-shares : goal.invariant-shares
invariant-shares l = (k : ℕ) → k < l.share → has l.set (share_label l.secret k l.fn.bit) ≡ l.first
