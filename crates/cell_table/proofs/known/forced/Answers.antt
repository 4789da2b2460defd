use Rattle.std.proofs.Common.{rules}
use Rattle.cell_table.proofs.Tables.{forced_at}
use Rattle.cell_table.proofs.known.forced.Goals as goal

pub returns : goal.returns
returns c = forced_at c.args.kind c.args.parts c.known_output.result (search rules) c.known_output.ensures
