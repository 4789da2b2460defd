use Rattle.std.proofs.Common.{◌≡◌, drop}
use Rattle.coco_model.specs.Goals.{all_among}
use Rattle.probe_encode.proofs.whole.all_among.Given as goal

abbrev pub invariant-bits : goal.invariant-bits
invariant-bits l = all_among l.labels (drop l.label-index l.bit) ≡ all_among l.labels l.bit
