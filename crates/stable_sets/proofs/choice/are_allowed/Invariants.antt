use Rattle.std.proofs.Common.{ℕ, ◌<◌, get_or}
use Rattle.coco_base.specs.declared.unrolled.Node.TheVariants.{Nothing}
use Rattle.coco_model.specs.Nodes.{IsAllowedChoice}
use Rattle.stable_sets.proofs.choice.are_allowed.Given as goal

abbrev pub invariant-nodes : goal.invariant-nodes
invariant-nodes l = (i : ℕ) → i < l.place → IsAllowedChoice (get_or l.choices i 0) (get_or l.nodes i Nothing)
