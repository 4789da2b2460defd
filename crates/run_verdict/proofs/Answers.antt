-- What the outcomes of a search over a written formula say of its run.
use Rattle.std.proofs.Common.{◌≡◌, ◌≢◌, ℕ, ◌<◌, ◌^◌, Bool, false, List, [], length, get_or, sym, ◌∙◌, ap, subst}
use Rattle.std.specs.Prelude.{All}
use Rattle.coco_base.specs.declared.finding.Finding.{Finding}
use Rattle.coco_base.specs.declared.limits.Limits.{Limits}
use Rattle.coco_base.specs.declared.setup.Setup.{Setup}
use Rattle.clause_store.specs.declared.line.Line.{Line}
use Rattle.clause_store.specs.declared.lit.Lit.{Lit}
use Rattle.clause_solver.specs.Outcomes.{CanBeSpent, IsOutcome, IsProgress, IsSolution}
use Rattle.clause_solver.specs.declared.outcome.Outcome.{Outcome}
use Rattle.derivation_check.specs.Laws.{RefutationsAreSound}
use Rattle.gate_graph.specs.Graphs.{Gates}
use Rattle.probe_encode.specs.Formulas.{EncodedView}
use Rattle.probe_encode.specs.Readings.{finding_of}
use Rattle.run_verdict.specs.Laws.{IsWrittenRun, MeansFindings, MeaningLaw}
use Rattle.run_verdict.specs.Verdicts.{IsSecureRun, IsFindingOf, IsCoveredRun, IsSpent, Refutes}
use Rattle.run_verdict.specs.declared.formula.Asked.{Asked}
use Rattle.run_verdict.proofs.Refuted.{no_model, no_empty}

-- what a solver says of its store and its outcome it says of what these are
pub outcome_at : (store clauses : List (List Lit)) (vars n steps : ℕ) (o p : Outcome) → store ≡ clauses → vars ≡ n → o ≡ p
    → IsOutcome store vars steps o → IsOutcome clauses n steps p
outcome_at store clauses vars n steps o p e f same h =
    subst (IsOutcome clauses n steps) same (subst (λ v. IsOutcome clauses v steps o) f (subst (λ s. IsOutcome s vars steps o) e h))

pub spent_at : (store clauses : List (List Lit)) (vars n steps : ℕ) (o p : Outcome) → store ≡ clauses → vars ≡ n → o ≡ p
    → CanBeSpent store vars steps o → CanBeSpent clauses n steps p
spent_at store clauses vars n steps o p e f same h =
    subst (CanBeSpent clauses n steps) same (subst (λ v. CanBeSpent clauses v steps o) f (subst (λ s. CanBeSpent s vars steps o) e h))

module _ (meaning : MeaningLaw) (gates : Gates) (setup : Setup) (asked : Asked) (limits : Limits) (form : EncodedView)
    (run : IsWrittenRun gates setup asked limits form) where
  means : MeansFindings gates setup asked form
  unfolding MeaningLaw
  means = meaning gates setup asked limits form run

  pub accepted : RefutationsAreSound → (steps : ℕ) (lines : List Line) → Refutes form.formula.clauses steps lines
      → Refutes form.formula.clauses steps lines × IsSecureRun gates.flat setup asked
  accepted sound steps lines refutes = (refutes, means.secure (no_model sound form.formula.clauses steps lines refutes))

  pub rejected : (values slice : List Bool) (finding : Finding) → IsSolution form.formula.clauses form.formula.vars values
      → slice ≡ values → finding ≡ finding_of form.tables (λ v. get_or slice v false) → IsFindingOf gates.flat setup asked finding
  rejected values slice finding solution same is =
      subst (IsFindingOf gates.flat setup asked) (sym (is ∙ ap (λ (list : List Bool). finding_of form.tables (λ v. get_or list v false)) same))
      (means.finding (λ v. get_or values v false) solution.met)

  pub undecided : (steps : ℕ) (lines : List Line) → length lines ≡ steps → IsProgress form.formula.clauses lines
      → steps < 3 ^ form.formula.vars → All (λ c. c ≢ []) form.formula.clauses
      → IsSpent form steps lines × IsCoveredRun gates.flat setup asked
  undecided steps lines long progress few filled =
      (record { all = long; progress = progress; few = few }, means.covered (no_empty form.formula.clauses filled))
