-- the first piece ends at the first separator
use Rattle.std.proofs.Common.{◌+◌, sym}
use Rattle.std.proofs.lemmas.List.{take_rest}
use Rattle.circuit_rows.specs.Words.{is_among}
use Rattle.circuit_rows.proofs.Pieces.{split_at, split_none}
use Rattle.circuit_rows.proofs.words.first_piece.Goals as goal

pub returns-in-None-clause-pieces : goal.returns-in-None-clause-pieces
returns-in-None-clause-pieces c =
    split_none (is_among c.args.separators.now) c.args.bytes.now (sym c.in-None.ensures.first)

pub returns-in-Some-clause-pieces : goal.returns-in-Some-clause-pieces
returns-in-Some-clause-pieces c =
    rw (take_rest c.args.bytes.now (c.in-Some.place + 1))
    (split_at (is_among c.args.separators.now) c.args.bytes.now c.in-Some.place (sym c.in-Some.ensures.first))
