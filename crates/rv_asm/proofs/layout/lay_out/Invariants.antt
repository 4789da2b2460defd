use Rattle.std.proofs.Common.{length}
use Rattle.std.specs.Str.Lines.{lines}
use Rattle.rv_asm.proofs.LayoutLemmas.{IsLaying}
use Rattle.rv_asm.proofs.layout.lay_out.Given as goal

abbrev pub invariant-lines : goal.invariant-lines
invariant-lines l = IsLaying (lines l.bytes) (lines l.rest) l.layout l.number

abbrev pub decreases-lines : goal.decreases-lines
decreases-lines l = length l.rest
