use Rattle.std.proofs.Common.{rules}
use Rattle.cell_table.proofs.Tables.{live_at_place}
use Rattle.cell_table.proofs.places.live.Goals as goal

pub returns : goal.returns
returns c = live_at_place c.args.kind c.args.parts c.args.place c.changes_output.result (search rules) c.changes_output.ensures
