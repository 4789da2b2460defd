use Rattle.std.proofs.Common.{◌≡◌, ◌++◌, take}
use Rattle.rv_asm.specs.Programs.{stored_bytes}
use Rattle.rv_asm.proofs.image.assembler.put_data.Given as goal

abbrev pub invariant-words : goal.invariant-words
invariant-words l = l.bytes.items ≡ l.fn.bytes.items ++ stored_bytes l.count (take l.word-index l.words)
