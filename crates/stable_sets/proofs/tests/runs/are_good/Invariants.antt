use Rattle.std.proofs.Common.{ℕ, ◌<◌}
use Rattle.coco_model.specs.UnrolledRuns.{node_at, IsGoodNode}
use Rattle.stable_sets.proofs.tests.runs.are_good.Given as goal

abbrev pub invariant-nodes : goal.invariant-nodes
invariant-nodes l = (i : ℕ) → i < l.place → IsGoodNode l.run i (node_at l.run i)
