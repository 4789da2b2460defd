use Rattle.std.proofs.Common.{◌≡◌, drop}
use Rattle.coco_model.specs.Goals.{is_among}
use Rattle.probe_encode.proofs.goal_list.contains.Given as goal

abbrev pub invariant-labels : goal.invariant-labels
invariant-labels l = is_among (drop l.other-index l.labels) l.label ≡ is_among l.labels l.label
