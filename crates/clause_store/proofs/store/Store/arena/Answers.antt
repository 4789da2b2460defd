use Rattle.std.proofs.Common.{sym, ◌∙◌}
use Rattle.clause_store.proofs.Arenas.{joined_pieces}
use Rattle.clause_store.proofs.store.Store.arena.Goals as goal

pub returns-clause-lits : goal.returns-clause-lits
returns-clause-lits c = rw (← c.self.view_is, joined_pieces c.self.inside.lits.items 0 c.self.inside.ends.items c.self.invariant.cut) c.as_slice.ensures.value
