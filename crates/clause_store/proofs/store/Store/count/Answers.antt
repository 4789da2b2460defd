use Rattle.std.proofs.Common.{arith}
use Rattle.clause_store.proofs.Arenas.{length-pieces}
use Rattle.clause_store.proofs.store.Store.count.Goals as goal

pub returns-clause-count : goal.returns-clause-count
returns-clause-count c =
    rw (← c.self.view_is) (omega (arith, length-pieces c.self.inside.lits.items 0 c.self.inside.ends.items, c.self.inside.ends.ok.0, c.len.ensures))
