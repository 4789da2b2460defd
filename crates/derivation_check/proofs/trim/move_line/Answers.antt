use Rattle.std.proofs.Common.{◌+◌, ◌<◌, length, get_or}
use Rattle.clause_store.specs.declared.line.Cut.{Cut}
use Rattle.derivation_check.proofs.Adding.{cut_below}
use Rattle.derivation_check.proofs.trim.move_line.Goals as goal

abbrev none : Cut
none = record { var = 0; id = 0 }

pub move_number-requires-clause-known : goal.move_number-requires-clause-known
move_number-requires-clause-known c =
    let line = c.args.line.now in
    let lt : c.moving.cut-index < length line.cuts = rw c.as_slice-cut-items.ensures at c.moving-test.true in
    let low : (get_or line.cuts c.moving.cut-index none).id < c.args.count + length c.args.places.now =
    cut_below (c.args.count + length c.args.places.now) line c.moving.cut-index none lt c.requires.known in
    rw c.as_slice-cut-items.ensures low
