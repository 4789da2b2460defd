use Rattle.std.proofs.Common.{◌≡◌, ◌<◌, ◌++◌, ◌∷◌, [], None, Some, false, length, ◌∙◌, arith}
use Rattle.std.proofs.Math.ListN.{set}
use Rattle.clause_store.specs.Signs.{sign_of}
use Rattle.clause_solver.specs.Trails.{IsTabled}
use Rattle.clause_solver.proofs.TrailFacts.{tabled_bound, tabled_push, tabled_coherent}
use Rattle.clause_solver.proofs.trail.Trail.push.Goals as goal

pub overflow_cast-place : goal.overflow_cast-place
overflow_cast-place c =
    let t = c.self.invariant in
    omega (arith, tabled_bound _ _ _ t.value t.place, c.self.inside.lits.ok.0)

pub invariant_of-self-2 : goal.invariant_of-self-2
invariant_of-self-2 c =
    let place : c.len-place.result ≡ length c.self.inside.lits.items = c.len-place.ensures ∙ c.self.inside.lits.ok.0 in
    let lits : c.push-2.new.self.items ≡ c.self.inside.lits.items ++ c.args.lit ∷ [] = c.in-Ok.ensures.items in
    let reasons : c.push.new.self.items ≡ c.self.inside.reasons.items ++ c.args.reason ∷ [] = c.in_ok-push.ensures.items in
    let range : c.args.lit.var < length c.self.inside.values.items = rw (← c.self.view_is) at c.requires.range in
    let none : sign_of c.self.inside.lits.items c.args.lit.var ≡ None = rw (← c.self.view_is) at c.requires.unset in
    rw (lits, reasons, place)
    (tabled_push _ _ _ _ _ c.args.lit c.args.reason c.self.invariant range none)

pub returns-clause-coherent : goal.returns-clause-coherent
returns-clause-coherent c =
    let place : c.len-place.result ≡ length c.self.inside.lits.items = c.len-place.ensures ∙ c.self.inside.lits.ok.0 in
    let lits : c.push-2.new.self.items ≡ c.self.inside.lits.items ++ c.args.lit ∷ [] = c.in-Ok.ensures.items in
    let reasons : c.push.new.self.items ≡ c.self.inside.reasons.items ++ c.args.reason ∷ [] = c.in_ok-push.ensures.items in
    let range : c.args.lit.var < length c.self.inside.values.items = rw (← c.self.view_is) at c.requires.range in
    let none : sign_of c.self.inside.lits.items c.args.lit.var ≡ None = rw (← c.self.view_is) at c.requires.unset in
    let tabled : IsTabled c.push-2.new.self.items c.push.new.self.items (set c.self.inside.values.items c.args.lit.var (Some c.args.lit.positive)) (set c.self.inside.unset.items c.args.lit.var false) (set c.self.inside.places.items c.args.lit.var c.len-place.result) =
    rw (lits, reasons, place) (tabled_push _ _ _ _ _ c.args.lit c.args.reason c.self.invariant range none) in
    tabled_coherent _ _ _ _ _ _ tabled
