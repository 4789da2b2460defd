use Rattle.std.proofs.Common.{◌≡◌, ℕ, ◌<◌, get_or}
use Rattle.coco_base.specs.declared.cell.Part.TheVariants.{Zero}
use Rattle.cycle_sim.proofs.leaves.clear.Given as goal

abbrev pub invariant-bits : goal.invariant-bits
invariant-bits l = (k : ℕ) → k < l.part-index → get_or l.row k Zero ≡ Zero
