-- a word of plain characters is a text
use Rattle.std.proofs.Common.{◌≡◌, true, arith}
use Rattle.std.specs.List.{list_all}
use Rattle.circuit_rows.specs.Words.{is_plain}
use Rattle.circuit_rows.proofs.Pieces.{plain_is_text}
use Rattle.circuit_rows.proofs.words.text.Goals as goal

pub returns-in-Err : goal.returns-in-Err
returns-in-Err c =
    let are_plain : list_all is_plain c.args.word.now ≡ true = grind arith in
    absurd (c.in-Err.ensures.cases.0 (plain_is_text c.args.word.now are_plain))
