use Rattle.std.proofs.Common.{◌≡◌, drop}
use Rattle.coco_model.specs.Goals.{is_share_of}
use Rattle.probe_encode.proofs.goal_list.is_share_of.Given as goal

abbrev pub invariant-bits : goal.invariant-bits
invariant-bits l = is_share_of (drop l.bit-index l.bits) l.label ≡ is_share_of l.bits l.label
