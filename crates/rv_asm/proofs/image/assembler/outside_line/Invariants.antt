use Rattle.std.proofs.Common.{take}
use Rattle.rv_asm.specs.Programs.{AreWithin}
use Rattle.rv_asm.proofs.image.assembler.outside_line.Given as goal

abbrev pub invariant-placed : goal.invariant-placed
invariant-placed l = AreWithin l.names (take l.item-index l.placed)
