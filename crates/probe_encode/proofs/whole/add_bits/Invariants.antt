use Rattle.std.proofs.Common.{◌≡◌, ◌++◌, map}
use Rattle.std.specs.List.{range_with_len}
use Rattle.coco_model.specs.Labels.{share_labels}
use Rattle.probe_encode.proofs.whole.add_bits.Given as goal

abbrev pub invariant-bits : goal.invariant-bits
invariant-bits l = l.sets ≡ l.fn.sets ++ map (share_labels l.secret) (range_with_len 0 l.bit)
