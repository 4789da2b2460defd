use Rattle.std.proofs.Common.{◌≡◌, length}
use Rattle.rv_asm.specs.Values.{halves_of}
use Rattle.rv_asm.proofs.layout.values.halves_of.Given as goal

abbrev pub invariant-halves : goal.invariant-halves
invariant-halves l = halves_of l.outer l.taken ≡ halves_of l.halves l.value

abbrev pub decreases-halves : goal.decreases-halves
decreases-halves l = length l.outer
