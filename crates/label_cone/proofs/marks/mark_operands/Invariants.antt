use Rattle.label_cone.specs.Marks.{AreMarkedTo}
use Rattle.label_cone.proofs.marks.mark_operands.Given as goal

abbrev pub invariant-inputs : goal.invariant-inputs
invariant-inputs l = AreMarkedTo l.fn.kind l.fn.parts l.fn.operands l.place l.initial.marks l.marks
