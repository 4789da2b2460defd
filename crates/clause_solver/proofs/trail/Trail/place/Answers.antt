use Rattle.std.proofs.Common.{◌≡◌, is_some, true, get_or, ◌∙◌, arith}
use Rattle.std.proofs.lemmas.List.{get_or_default}
use Rattle.clause_store.specs.Signs.{sign_of}
use Rattle.clause_solver.proofs.TrailFacts.{place_of, tabled_coherent}
use Rattle.clause_solver.proofs.SignFacts.{present}
use Rattle.clause_solver.proofs.TrailFacts.{tabled_range}
use Rattle.clause_solver.proofs.trail.Trail.place.Goals as goal

pub returns-clause-place : goal.returns-clause-place
returns-clause-place c =
    let t = c.self.invariant in
    let some : is_some (sign_of c.self.inside.lits.items c.args.var) ≡ true = rw (← c.self.view_is) at c.requires in
    let s = present _ some in
    let lt = tabled_range _ _ t.value c.args.var s.0 s.1 in
    let read : c.index.result.now ≡ get_or c.self.inside.places.items c.args.var 0 = c.index.ensures ∙ get_or_default c.self.inside.places.items c.args.var c.index.result.now 0 (omega (arith, t.places_len)) in
    rw (← c.self.view_is, read) (place_of _ _ t.place c.args.var some)

pub returns-clause-coherent : goal.returns-clause-coherent
returns-clause-coherent c =
    rw (← c.self.view_is) (tabled_coherent _ _ _ _ _ _ c.self.invariant)
