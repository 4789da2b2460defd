use Rattle.std.proofs.Common.{◌≡◌, ℕ, ◌<◌, length, get_or}
use Rattle.coco_base.specs.declared.cell.Part.TheVariants.{Zero}
use Rattle.coco_model.specs.Calm.{both}
use Rattle.calm_reach.proofs.calm.unchanged.Given as goal

abbrev pub invariant-bits : goal.invariant-bits
invariant-bits l =
    (length l.parts.items ≡ l.bit)
    × ((b : ℕ) → b < l.bit → get_or l.parts.items b Zero ≡ both (get_or l.before b Zero) (get_or l.now b Zero))
