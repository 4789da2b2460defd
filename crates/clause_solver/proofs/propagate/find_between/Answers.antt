use Rattle.std.proofs.Common.{false, sym, ap, subst, ◌∙◌, inl, inr, arith}
use Rattle.std.proofs.lemmas.Bool.{cases_eq}
use Rattle.std.proofs.lemmas.Option.{same_Some, slice_get-get_or}
use Rattle.std.specs.Prelude.{slice_get}
use Rattle.clause_store.specs.declared.lit.Lit.{Lit}
use Rattle.clause_solver.specs.Watches.{IsFalse}
use Rattle.clause_solver.proofs.StandingFacts.{ascends_sign}
use Rattle.clause_solver.proofs.propagate.find_between.Goals as goal
use Rattle.clause_solver.proofs.propagate.find_between.Goals.{else-lit-besides-via-then-lit-besides+else-not-is_false, else-lit-besides-via-else-lit-besides}

abbrev some_lit : Lit
some_lit = record { var = 0; positive = false }

pub returns-then-not-is_false-clause-held : goal.returns-then-not-is_false-clause-held
returns-then-not-is_false-clause-held c =
    let here = slice_get-get_or c.args.clause.now c.finding.place some_lit (omega arith) in
    ascends_sign c.args.clause.now c.requires.range.ascends c.finding.place _ here

pub finding-preserved : goal.finding-preserved
finding-preserved c =
    let here = slice_get-get_or c.args.clause.now c.finding.place some_lit (omega arith) in
    elim c.else-lit-besides.branch [
      | else-lit-besides-via-then-lit-besides+else-not-is_false w ↦ λ k l le lt e ne.
          elim (cases_eq k c.finding.place) [
            | inl same ↦ subst (IsFalse c.args.trail.now.lits) (same_Some _ l (sym here ∙ ap (slice_get c.args.clause.now) (sym same) ∙ e)) w.if-not-is_false.ensures
            | inr other ↦ c.finding.invariant k l le (omega arith) e ne
          ]
      | else-lit-besides-via-else-lit-besides w ↦ λ k l le lt e ne.
          elim (cases_eq k c.finding.place) [
            | inl same ↦ absurd (ne (ap (λ (x : Lit). x.var) (same_Some l _ (sym e ∙ ap (slice_get c.args.clause.now) same ∙ here)) ∙ w.if-lit-besides.false))
            | inr other ↦ c.finding.invariant k l le (omega arith) e ne
          ]
    ]
