use Rattle.std.proofs.Common.{subst, List, ℕ}
use Rattle.std.specs.Str.Lines.{lines}
use Rattle.rv_asm.proofs.WordLemmas.{IsReading, reading_goes_on, words_have_room}
use Rattle.rv_asm.proofs.image.word_file.read_words.Goals as goal

pub reading-preserved : goal.reading-preserved
reading-preserved c =
    reading_goes_on _ _ _ _ _ _ _ (subst (λ (ls : List (List ℕ)). IsReading (lines c.args.bytes.now) ls c.reading.image c.reading.number) c.in-Some.ensures.line c.reading.invariant) c.saturating_add-number.ensures c.in_ok-take_line.ensures.ok

pub returns-clause-room : goal.returns-clause-room
returns-clause-room c = words_have_room c.reading.invariant.before c.reading.image c.reading.invariant.has
