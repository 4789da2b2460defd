use Rattle.cell_table.proofs.LawLemmas.{known_is_not_live}
use Rattle.cell_table.proofs.laws.known_is_not_live_law.Goals as goal

pub returns : goal.returns
returns c = known_is_not_live
