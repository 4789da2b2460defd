use Rattle.coco_model.specs.Goals.{is_among}
use Rattle.probe_encode.specs.Marks.{AreMarked}
use Rattle.probe_encode.proofs.labels.mark.Given as goal

abbrev pub invariant-labels : goal.invariant-labels
invariant-labels l = AreMarked l.fn.marks l.marks (λ k. is_among l.yielded k)
