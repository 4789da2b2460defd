use Rattle.std.proofs.Common.{◌≢◌, ◌<◌, Some, not, length, sym, ap, ◌∙◌, inl, inr, arith}
use Rattle.std.proofs.lemmas.Bool.{cases_lt}
use Rattle.std.proofs.lemmas.Option.{slice_get_within}
use Rattle.clause_store.specs.Signs.{sign_of}
use Rattle.clause_solver.specs.Watches.{IsFalse}
use Rattle.clause_solver.proofs.SignFacts.{IsFirstAt, sign_found}
use Rattle.clause_solver.proofs.propagate.find_awake.Goals as goal

pub returns-in-None-find_between-clause-none : goal.returns-in-None-find_between-clause-none
returns-in-None-find_between-clause-none c =
    λ w t ne e.
    let at : IsFirstAt c.args.clause.now w t = sign_found c.args.clause.now w t e in
    let lt : at.place < length c.args.clause.now = slice_get_within c.args.clause.now at.place at.lit at.at_place in
    let apart : at.lit.var ≢ c.args.besides.var = λ same. ne (sym at.var ∙ same) in
    let false_lit : IsFalse c.args.trail.now.lits at.lit =
    elim (cases_lt at.place c.place_of-middle.result) [
      | inl before ↦ (c.in-None-find_between).ensures.none at.place at.lit (omega arith) before at.at_place apart
      | inr from ↦ c.in-None.ensures.none at.place at.lit from lt at.at_place apart
    ] in
    ap (sign_of c.args.trail.now.lits) (sym at.var) ∙ false_lit ∙ ap (λ b. Some (not b)) at.sign
