use Rattle.std.proofs.Common.{◌≡◌, ◌+◌, length}
use Rattle.std.specs.List.{prefix_len}
use Rattle.rv_asm.specs.Tokens.{is_name_byte}
use Rattle.rv_asm.proofs.line.tokens.name_bytes.Given as goal

abbrev pub invariant-bytes : goal.invariant-bytes
invariant-bytes l = (l.count + length l.rest ≡ length l.bytes) × (l.count + prefix_len is_name_byte l.rest ≡ prefix_len is_name_byte l.bytes)

abbrev pub decreases-bytes : goal.decreases-bytes
decreases-bytes l = length l.rest
