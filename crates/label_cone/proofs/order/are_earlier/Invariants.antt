use Rattle.std.proofs.Common.{◌≡◌, ℕ, ◌<◌, get_or}
use Rattle.coco_base.specs.declared.cell.Part.TheVariants.{Zero, Vary}
use Rattle.label_cone.proofs.order.are_earlier.Given as goal

abbrev pub invariant-inputs : goal.invariant-inputs
invariant-inputs l = (j : ℕ) → j < l.input → get_or l.parts j Zero ≡ Vary → get_or l.operands j 0 < l.fn.place
