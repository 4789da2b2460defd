use Rattle.std.proofs.Common.{◌≡◌, ℕ, ◌<◌, get_or}
use Rattle.coco_base.specs.declared.unrolled.Node.TheVariants.{Nothing}
use Rattle.unroll.proofs.leaves.clear.Given as goal

abbrev pub invariant-bits : goal.invariant-bits
invariant-bits l = (k : ℕ) → k < l.node-index → get_or l.row k Nothing ≡ Nothing
