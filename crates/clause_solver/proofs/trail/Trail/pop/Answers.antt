use Rattle.std.proofs.Common.{◌≡◌, ◌+◌, ◌-◌, ◌++◌, ◌∷◌, [], length, take, vec_len, ◌∙◌, ap, arith}
use Rattle.std.proofs.lemmas.List.{length_push, length-take-le}
use Rattle.clause_solver.proofs.TrailFacts.{tabled_pop, tabled_last}
use Rattle.clause_solver.proofs.trail.Trail.pop.Goals as goal

pub index_mut-requires : goal.index_mut-requires
index_mut-requires c =
    let lits : c.self.inside.lits.items ≡ c.pop.new.self.items ++ c.in-Some.lit ∷ [] = c.in-Some.ensures.items in
    let tabled = rw lits at c.self.invariant in
    omega (arith, tabled_last _ _ _ _ _ _ tabled, c.self.inside.values.ok.0)

pub index_mut-requires-in-Some : goal.index_mut-requires-in-Some
index_mut-requires-in-Some c =
    let lits : c.self.inside.lits.items ≡ c.pop.new.self.items ++ c.in-Some.lit ∷ [] = c.in-Some.ensures.items in
    let tabled = rw lits at c.self.invariant in
    omega (arith, tabled_last _ _ _ _ _ _ tabled, c.self.inside.unset.ok.0, tabled.unset_len)

pub invariant_of-self-in-Some : goal.invariant_of-self-in-Some
invariant_of-self-in-Some c =
    let lits : c.self.inside.lits.items ≡ c.pop.new.self.items ++ c.in-Some.lit ∷ [] = c.in-Some.ensures.items in
    let tabled = rw lits at c.self.invariant in
    let n : length c.self.inside.reasons.items ≡ length c.pop.new.self.items + 1 = tabled.reasons_len ∙ length_push _ _ in
    let rest : c.pop-in-Some.new.self.items ≡ take (vec_len c.self.inside.reasons - 1) c.self.inside.reasons.items = c.pop-in-Some.ensures.rest in
    let m : length c.pop-in-Some.new.self.items ≡ length c.pop.new.self.items = ap length rest ∙ length-take-le _ _ (omega (arith, c.self.inside.reasons.ok.0)) ∙ omega (arith, c.self.inside.reasons.ok.0) in
    tabled_pop _ _ _ _ _ _ _ tabled m
