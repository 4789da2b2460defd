use Rattle.std.proofs.Common.{◌≡◌, ℕ, refl, ◌++◌, ◌∷◌, [], Some, None, sym, ◌∙◌, ap, arith}
use Rattle.std.specs.Prelude.{slice_get}
use Rattle.std.proofs.lemmas.Option.{none-some}
use Rattle.clause_store.specs.declared.line.Cut.{Cut}
use Rattle.clause_store.specs.Derivations.{clauses_of}
use Rattle.clause_solver.specs.Trails.{level_start_of}
use Rattle.clause_solver.specs.Analysis.{marked_from}
use Rattle.clause_solver.proofs.SignFacts.{sign_at}
use Rattle.clause_solver.proofs.PropagationFacts.{range_at}
use Rattle.clause_solver.proofs.AnalysisFacts.{chained_skip, chained_forced, chained_cut, covered_reason, reason_at}
use Rattle.clause_solver.proofs.analysis.step_back.Goals as goal

abbrev cut_of : ℕ → ℕ → Cut
cut_of var id = record { var = var; id = id }

pub bounds-marks-lit : goal.bounds-marks-lit
bounds-marks-lit c =
    let x = c.requires.explained.coherent in
    let sign = sign_at _ c.args.place _ c.lit-lit.ensures (x.fresh c.args.place _ c.lit-lit.ensures) in
    omega (arith, x.in_range _ _ sign, c.requires.len)

pub returns-then-not-marks-lit-clause-chained : goal.returns-then-not-marks-lit-clause-chained
returns-then-not-marks-lit-clause-chained c =
    chained_skip _ _ _ _ _ c.args.place _ _ c.requires.chained c.lit-lit.ensures c.if-not-marks-lit.true

pub mark_clause-total-requires-clause-range : goal.mark_clause-total-requires-clause-range
mark_clause-total-requires-clause-range c =
    let named : slice_get (clauses_of c.args.store.now c.args.lines.now) c.in-Some.id ≡ Some c.in-Some-clause_at.clause.now = sym c.in-Some-clause_at.ensures in
    range_at _ _ c.requires.explained.in_range c.in-Some.id _ named

pub mark_clause-total-requires-clause-covered : goal.mark_clause-total-requires-clause-covered
mark_clause-total-requires-clause-covered c =
    let named : slice_get (clauses_of c.args.store.now c.args.lines.now) c.in-Some.id ≡ Some c.in-Some-clause_at.clause.now = sym c.in-Some-clause_at.ensures in
    let reason : slice_get c.args.trail.now.reasons c.args.place ≡ Some (Some c.in-Some.id) = c.in-Some.ensures in
    let x = c.requires.explained in
    let sign = sign_at _ c.args.place _ c.lit-lit.ensures (x.coherent.fresh c.args.place _ c.lit-lit.ensures) in
    covered_reason _ _ c.args.place _ sign (reason_at _ _ c.args.place c.in-Some.id _ _ (x.reasoned c.args.place c.in-Some.id reason) c.lit-lit.ensures named)

pub overflow_sub-result : goal.overflow_sub-result
overflow_sub-result c = omega (arith, c.mark_clause-total.ensures.grows, c.requires.more)

pub returns-in-None-clause-chained : goal.returns-in-None-clause-chained
returns-in-None-clause-chained c =
    let none : slice_get c.args.trail.now.reasons c.args.place ≡ Some None = c.in-None.ensures in
    absurd (chained_forced _ _ _ _ _ c.args.place _ _ c.requires.explained c.requires.chained c.requires.more c.lit-lit.ensures c.if-not-marks-lit.false none)

pub returns-in-None-clause_at-clause-chained : goal.returns-in-None-clause_at-clause-chained
returns-in-None-clause_at-clause-chained c =
    let reason : slice_get c.args.trail.now.reasons c.args.place ≡ Some (Some c.in-Some.id) = c.in-Some.ensures in
    let r = c.requires.explained.reasoned c.args.place c.in-Some.id reason in
    let none : None ≡ slice_get (clauses_of c.args.store.now c.args.lines.now) c.in-Some.id = c.in-None-clause_at.ensures in
    absurd (none-some r.clause (none ∙ r.named))

pub returns-in_ok-push-in-Some-clause_at-clause-chained : goal.returns-in_ok-push-in-Some-clause_at-clause-chained
returns-in_ok-push-in-Some-clause_at-clause-chained c =
    let named : slice_get (clauses_of c.args.store.now c.args.lines.now) c.in-Some.id ≡ Some c.in-Some-clause_at.clause.now = sym c.in-Some-clause_at.ensures in
    let reason : slice_get c.args.trail.now.reasons c.args.place ≡ Some (Some c.in-Some.id) = c.in-Some.ensures in
    let push : c.push.new.self ≡ c.args.chain.now.cuts ++ cut_of c.lit-lit.result.var c.in-Some.id ∷ [] = (c.in_ok-push-in-Some-clause_at).ensures.ok in
    let counted : c.mark_clause-total.result ≡ marked_from c.mark_clause-total.new.marks c.args.trail.now.lits (level_start_of c.args.trail.now) = c.mark_clause-total.ensures.counted ∙ ap (marked_from c.mark_clause-total.new.marks c.args.trail.now.lits) c.level_start-start.ensures in
    rw push (chained_cut _ _ _ _ c.args.marks.now c.mark_clause-total.new.marks c.args.place c.args.count c.mark_clause-total.result c.in-Some.id c.lit-lit.result c.in-Some-clause_at.clause.now (cut_of c.lit-lit.result.var c.in-Some.id) c.requires.explained c.requires.chained c.requires.more c.lit-lit.ensures c.if-not-marks-lit.false reason named refl refl c.mark_clause-total.ensures.marked (c.mark_clause-total.ensures.len ∙ c.requires.len) counted c.mark_clause-total.ensures.grows)
