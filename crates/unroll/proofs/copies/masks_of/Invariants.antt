use Rattle.std.proofs.Common.{◌≡◌, take}
use Rattle.unroll.proofs.copies.masks_of.Given as goal

abbrev pub invariant-masks : goal.invariant-masks
invariant-masks l = l.copies.items ≡ take l.mask-index l.masks
