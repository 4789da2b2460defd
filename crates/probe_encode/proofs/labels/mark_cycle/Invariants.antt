use Rattle.std.specs.List.{list_any, range_with_len}
use Rattle.probe_encode.specs.Labels.{has_label_at}
use Rattle.probe_encode.specs.Marks.{AreMarked}
use Rattle.probe_encode.proofs.labels.mark_cycle.Given as goal

abbrev pub invariant-bits : goal.invariant-bits
invariant-bits l =
    AreMarked l.fn.marks l.marks (λ k. list_any (has_label_at l.source.run l.source.cones.now.cones k l.cycle) (range_with_len 0 l.bit))
