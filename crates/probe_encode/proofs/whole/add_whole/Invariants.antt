use Rattle.std.proofs.Common.{◌≡◌, ◌++◌, take}
use Rattle.coco_model.specs.Goals.{whole_with}
use Rattle.probe_encode.proofs.whole.add_whole.Given as goal

abbrev pub invariant-shares : goal.invariant-shares
invariant-shares l = l.bits ≡ l.fn.bits ++ whole_with l.labels (take l.bit-index l.shares) l.label
