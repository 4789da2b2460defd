use Rattle.std.proofs.Common.{◌+◌, ◌*◌, length}
use Rattle.std.specs.Prelude.{count_by}
use Rattle.gate_graph.specs.Marks.{is_new}
use Rattle.gate_graph.proofs.WalkLemmas.{IsWalking}
use Rattle.gate_graph.proofs.walk.walk_from.Given as goal

abbrev pub invariant-walk : goal.invariant-walk
invariant-walk l = IsWalking l.fn.flat l.fn.start l.fn.marks l.marks l.path.items

abbrev pub decreases-walk : goal.decreases-walk
decreases-walk l = 2 * count_by is_new l.marks + length l.path.items
