use Rattle.std.proofs.Common.{◌≡◌, ◌+◌, Some, [], subst, add-one, arith}
use Rattle.std.specs.Prelude.{slice_get}
use Rattle.std.proofs.lemmas.Option.{get_or_from_slice_get}
use Rattle.clause_store.specs.Signs.{Ascends}
use Rattle.clause_store.proofs.Arenas.{joined_more, joined_front, range_is}
use Rattle.clause_store.proofs.store.Store.get.Goals as goal

pub between-requires-clause-order : goal.between-requires-clause-order
between-requires-clause-order c =
    let end = rw add-one at c.place-end.ensures in
    omega (arith, c.place-start.ensures, end, joined_more c.args.self.now c.args.id)

pub between-requires-clause-within : goal.between-requires-clause-within
between-requires-clause-within c = rw c.arena.ensures.lits (omega (arith, c.place-end.ensures, joined_front c.args.self.now (c.args.id + 1)))

pub returns-clause-clause : goal.returns-clause-clause
returns-clause-clause c =
    rw (c.between.ensures, c.arena.ensures.lits, c.place-start.ensures, c.place-end.ensures, add-one) (range_is c.args.self.now c.args.id c.requires)

pub returns-clause-ascending : goal.returns-clause-ascending
returns-clause-ascending c =
    let named : slice_get c.args.self.now c.args.id ≡ Some c.between.result.now = rw (c.between.ensures, c.arena.ensures.lits, c.place-start.ensures, c.place-end.ensures, add-one) (range_is c.args.self.now c.args.id c.requires) in
    subst Ascends (get_or_from_slice_get c.args.self.now c.args.id _ [] named) (c.arena.ensures.ascending c.args.id [] c.requires)
