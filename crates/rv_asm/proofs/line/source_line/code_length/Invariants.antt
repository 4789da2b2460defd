use Rattle.std.proofs.Common.{◌≡◌, ◌+◌, length}
use Rattle.rv_asm.specs.SourceLines.{code_length}
use Rattle.rv_asm.proofs.line.source_line.code_length.Given as goal

abbrev pub invariant-code : goal.invariant-code
invariant-code l = (l.count + length l.rest ≡ length l.bytes) × (l.count + code_length l.rest ≡ code_length l.bytes)

abbrev pub decreases-code : goal.decreases-code
decreases-code l = length l.rest
