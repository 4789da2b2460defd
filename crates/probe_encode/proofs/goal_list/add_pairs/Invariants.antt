use Rattle.std.proofs.Common.{◌≡◌, ◌++◌, drop}
use Rattle.coco_model.specs.Goals.{same_pairs}
use Rattle.probe_encode.specs.Goals.{label_signal}
use Rattle.probe_encode.proofs.goal_list.add_pairs.Given as goal

abbrev pub invariant-shares : goal.invariant-shares
invariant-shares l =
    let literal = label_signal l.labelled.variables.now l.labelled.labels.now in
    l.all ++ same_pairs literal (drop l.share l.bit) ≡ l.fn.all ++ same_pairs literal l.bit
