-- The laws of a written formula: it has a model exactly where a finding exists, which a model reads as; and without the
-- empty clause it is that of a covered run.
use Rattle.std.specs.Prelude.{ℕ, Bool, [], All, Contains}
use Rattle.coco_base.specs.declared.setup.Setup.{Setup}
use Rattle.coco_model.specs.Setups.{IsBoundTo}
use Rattle.gate_graph.specs.Graphs.{Gates, IsBuilt}
use Rattle.clause_solver.specs.Propagation.{IsOver}
use Rattle.circuit_clauses.specs.Formulas.{Fits}
use Rattle.formula_laws.specs.Laws.{IsModel, HasModel}
use Rattle.probe_encode.specs.Formulas.{EncodedView}
use Rattle.probe_encode.specs.Readings.{finding_of}
use Rattle.run_verdict.specs.Stops.{AreRunLimits}
use Rattle.run_verdict.specs.Verdicts.{IsCoveredRun, IsFindingOf, IsSecureRun}
use Rattle.run_verdict.specs.declared.formula.Asked.{Asked}
use Rattle.run_verdict.specs.Written.{IsAsked, IsWritten}
use Rattle.coco_base.specs.declared.limits.Limits.{Limits}

-- a bound run with its written formula, within the limits
pub record IsWrittenRun (gates : Gates) (setup : Setup) (asked : Asked) (limits : Limits)
    (form : EncodedView) : Type 0 where
  pub built : IsBuilt gates
  pub bound : IsBoundTo gates.flat setup
  pub asked_is : IsAsked asked
  pub limits_are : AreRunLimits gates.flat limits
  pub written : IsWritten gates setup asked limits.weight form

-- what a written formula means
pub record MeansFindings (gates : Gates) (setup : Setup) (asked : Asked) (form : EncodedView) : Type 0 where
  pub secure : (HasModel form.formula.clauses → ⊥) → IsSecureRun gates.flat setup asked
  pub finding : (values : ℕ → Bool) → IsModel form.formula.clauses values
      → IsFindingOf gates.flat setup asked (finding_of form.tables values)
  pub covered : (Contains form.formula.clauses [] → ⊥) → IsCoveredRun gates.flat setup asked

unfoldable pub MeaningLaw : Type 0
MeaningLaw =
    (gates : Gates) (setup : Setup) (asked : Asked) (limits : Limits) (form : EncodedView)
    → IsWrittenRun gates setup asked limits form → MeansFindings gates setup asked form

-- a written formula is one that a solver takes
pub record CanBeSolved (form : EncodedView) : Type 0 where
  pub fits : Fits form.formula
  pub range : All (IsOver form.formula.vars) form.formula.clauses

unfoldable pub SolvableLaw : Type 0
SolvableLaw =
    (gates : Gates) (setup : Setup) (asked : Asked) (limits : Limits) (form : EncodedView)
    → IsWrittenRun gates setup asked limits form → CanBeSolved form
