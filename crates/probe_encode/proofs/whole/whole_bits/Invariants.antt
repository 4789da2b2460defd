use Rattle.std.proofs.Common.{◌≡◌, take, flat_map}
use Rattle.coco_model.specs.Goals.{whole_with}
use Rattle.coco_model.specs.Labels.{secret_labels}
use Rattle.probe_encode.proofs.whole.whole_bits.Given as goal

abbrev pub invariant-labels : goal.invariant-labels
invariant-labels l = l.bits ≡ flat_map (whole_with l.labels (secret_labels l.table.secrets)) (take l.label-index l.labels)
