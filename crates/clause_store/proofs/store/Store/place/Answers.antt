use Rattle.std.proofs.Common.{◌≡◌, ◌≢◌, ◌≤◌, ◌-◌, length, get_or, ◌∙◌, arith}
use Rattle.std.proofs.lemmas.List.{get_or_default}
use Rattle.clause_store.specs.Arenas.{pieces}
use Rattle.clause_store.proofs.Arenas.{length-pieces, end_before}
use Rattle.clause_store.proofs.store.Store.place.Goals as goal

pub index-requires : goal.index-requires
index-requires c =
    let few : c.args.id ≤ length (pieces c.self.inside.lits.items 0 c.self.inside.ends.items) = rw (← c.self.view_is) at c.requires in
    omega (arith, length-pieces c.self.inside.lits.items 0 c.self.inside.ends.items, c.self.inside.ends.ok.0)

pub returns : goal.returns
returns c =
    let few : c.args.id ≤ length (pieces c.self.inside.lits.items 0 c.self.inside.ends.items) = rw (← c.self.view_is) at c.requires in
    let within : c.args.id ≤ length c.self.inside.ends.items = omega (arith, length-pieces c.self.inside.lits.items 0 c.self.inside.ends.items) in
    let some : c.args.id ≢ 0 = λ e. c.if-id-eq0.false e in
    let read : c.index.result.now ≡ get_or c.self.inside.ends.items (c.args.id - 1) 0 = c.index.ensures ∙ get_or_default c.self.inside.ends.items (c.args.id - 1) c.index.result.now 0 (omega arith) in
    rw (← c.self.view_is) (read ∙ end_before c.self.inside.lits.items c.self.inside.ends.items c.args.id c.self.invariant.cut within some)
