use Rattle.std.proofs.Common.{false, replicate}
use Rattle.std.specs.List.{list_any, range_with_len}
use Rattle.coco_model.specs.Labels.{label_count}
use Rattle.probe_encode.specs.Labels.{has_label_in}
use Rattle.probe_encode.specs.Marks.{AreMarked}
use Rattle.probe_encode.proofs.labels.marks.Given as goal

abbrev pub invariant-cycles : goal.invariant-cycles
invariant-cycles l =
    let unrolled = l.source.unrolled.now in
    AreMarked (replicate (label_count unrolled.table unrolled.cycles) false) l.marks.items
    (λ k. list_any (has_label_in l.source.run l.source.cones.now.cones k) (range_with_len 0 l.cycle))
