use Rattle.std.proofs.Common.{◌≡◌, ◌+◌, ◌<◌, ◌^◌, ◌++◌, ◌∷◌, [], List, length, subst, sym, ◌∙◌, ap, arith}
use Rattle.std.specs.Prelude.{All}
use Rattle.std.proofs.Math.ListN.{length-append}
use Rattle.std.proofs.lemmas.List.{length_push}
use Rattle.std.proofs.lemmas.List.Elements.{All-push}
use Rattle.clause_store.specs.declared.lit.Lit.{Lit}
use Rattle.clause_store.specs.Signs.{Ascends}
use Rattle.clause_store.specs.Arenas.{pieces, IsArena}
use Rattle.clause_store.proofs.Arenas.{length-pieces, pieces_push, arena_push}
use Rattle.clause_store.proofs.store.Store.push.Goals as goal

pub returns-clause-number : goal.returns-clause-number
returns-clause-number c =
    rw (← c.self.view_is) (omega (arith, length-pieces c.self.inside.lits.items 0 c.self.inside.ends.items, c.self.inside.ends.ok.0, c.len-id.ensures))

pub returns-clause-ok : goal.returns-clause-ok
returns-clause-ok c =
    let lits : c.extend_from_slice.new.self.items ≡ c.self.inside.lits.items ++ c.args.lits.now = c.in_ok-extend_from_slice.ensures.items in
    let ends : c.push.new.self.items ≡ c.self.inside.ends.items ++ c.len.result ∷ [] = c.in_ok-push.ensures.items ∙ ap (λ xs. xs ++ c.len.result ∷ []) c.in_ok-reserve.ensures.items in
    let end : c.len.result ≡ length c.self.inside.lits.items + length c.args.lits.now = omega (arith, c.len.ensures, c.extend_from_slice.new.self.ok.0, ap length lits, length-append c.self.inside.lits.items c.args.lits.now) in
    rw (lits, ends, end, ← c.self.view_is) (pieces_push c.self.inside.lits.items c.args.lits.now 0 c.self.inside.ends.items c.self.invariant.cut)

pub invariant_of-self-2 : goal.invariant_of-self-2
invariant_of-self-2 c =
    let lits : c.extend_from_slice.new.self.items ≡ c.self.inside.lits.items ++ c.args.lits.now = c.in_ok-extend_from_slice.ensures.items in
    let ends : c.push.new.self.items ≡ c.self.inside.ends.items ++ c.len.result ∷ [] = c.in_ok-push.ensures.items ∙ ap (λ xs. xs ++ c.len.result ∷ []) c.in_ok-reserve.ensures.items in
    let end : c.len.result ≡ length c.self.inside.lits.items + length c.args.lits.now = omega (arith, c.len.ensures, c.extend_from_slice.new.self.ok.0, ap length lits, length-append c.self.inside.lits.items c.args.lits.now) in
    let room : length (pieces c.self.inside.lits.items 0 c.self.inside.ends.items) < 2 ^ 31 = rw (← c.self.view_is) at c.requires.room in
    rw (lits, ends, end) (arena_push c.self.inside.lits.items c.args.lits.now c.self.inside.ends.items c.self.invariant c.requires.ascending room)
