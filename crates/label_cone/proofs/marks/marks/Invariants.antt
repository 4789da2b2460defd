use Rattle.std.proofs.Common.{◌≤◌, length}
use Rattle.label_cone.specs.Marks.{AreMarksTo}
use Rattle.label_cone.proofs.marks.marks.Given as goal

abbrev pub invariant-nodes : goal.invariant-nodes
invariant-nodes l = (l.left ≤ length l.nodes) × AreMarksTo l.nodes l.left l.marks.items

abbrev pub decreases-nodes : goal.decreases-nodes
decreases-nodes l = l.left
