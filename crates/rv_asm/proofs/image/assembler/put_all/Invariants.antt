use Rattle.std.proofs.Common.{take}
use Rattle.rv_asm.specs.Programs.{HasPut}
use Rattle.rv_asm.proofs.image.assembler.put_all.Given as goal

abbrev pub invariant-placed : goal.invariant-placed
invariant-placed l = HasPut l.names (take l.item-index l.placed) l.memory
