use Rattle.std.proofs.Common.{◌≡◌, ◌++◌, map, take}
use Rattle.rv_asm.proofs.image.assembler.put_text.Given as goal

abbrev pub invariant-words : goal.invariant-words
invariant-words l = (l.image.text ≡ l.fn.image.text ++ take l.word-index l.words) × (l.image.lines ≡ l.fn.image.lines ++ map (λ _. l.line) (take l.word-index l.words)) × (l.image.values ≡ l.fn.image.values)
