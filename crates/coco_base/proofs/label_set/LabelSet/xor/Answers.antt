use Rattle.std.proofs.lemmas.Map.Keys.{IsStrictlyIncreasing-from_sorted}
use Rattle.coco_base.proofs.Members.{clones_are_equal, IsSymmetricDifference-members}
use Rattle.coco_base.proofs.label_set.LabelSet.xor.Goals as goal

pub invariant_of-result : goal.invariant_of-result
invariant_of-result c = IsStrictlyIncreasing-from_sorted c.in_ok-labels.labels.keys c.in_ok-labels.ensures.3.1

pub returns : goal.returns
returns c =
    rw (← c.self.view_is, ← c.other.view_is)
    (IsSymmetricDifference-members c.self.inside.labels.keys c.other.inside.labels.keys c.in_ok-labels.labels.keys
    (c.in_ok-labels.ensures.4 clones_are_equal))
