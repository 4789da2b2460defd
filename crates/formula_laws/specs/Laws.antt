-- The laws of the formula of a run: its models read as findings, it has one where a finding exists, and its clauses have
-- its variables alone.
use Rattle.std.specs.Prelude.{ℕ, ◌<◌, Bool, List, All, Contains}
use Rattle.clause_store.specs.declared.lit.Lit.{Lit}
use Rattle.clause_store.specs.Assignments.{IsMet}
use Rattle.coco_base.specs.declared.finding.Finding.{Finding}
use Rattle.coco_base.specs.declared.finding.Probe.{Probe}
use Rattle.coco_base.specs.declared.unrolled.Unrolled.{Unrolled}
use Rattle.coco_model.specs.Labels.{label_count}
use Rattle.coco_model.specs.Matters.{HasNeededTry}
use Rattle.coco_model.specs.Reach.{Reach}
use Rattle.coco_model.specs.WrittenFindings.{IsFindingValue}
use Rattle.label_cone.specs.Coned.{Coned}
use Rattle.probe_clauses.specs.RunViews.{RunView}
use Rattle.probe_encode.specs.Formulas.{encoded}
use Rattle.probe_encode.specs.Readings.{finding_of}
use Rattle.probe_encode.specs.Sources.{encoding_of}
use Rattle.formula_laws.specs.Runs.{IsFormulaRun, seen_in}

-- values of the variables meet all clauses
abbrev pub IsModel : List (List Lit) → (ℕ → Bool) → Type 0
IsModel clauses values = All (IsMet values) clauses

-- some values do
pub record HasModel (clauses : List (List Lit)) : Type 0 where
  pub values : ℕ → Bool
  pub model : IsModel clauses values

-- each model reads as a finding
unfoldable pub FindingLaw : Type 0
FindingLaw =
    (view : RunView) (u : Unrolled) (coned : Coned) (reach : Reach) → IsFormulaRun view u coned reach
    → (values : ℕ → Bool) → IsModel (encoded (encoding_of view u coned)).formula.clauses values
    → IsFindingValue (seen_in view u reach) view.order (finding_of (encoded (encoding_of view u coned)).tables values)

-- where a try that is free at nodes that matter alone shows a leak, there is a model
unfoldable pub ModelLaw : Type 0
ModelLaw =
    (view : RunView) (u : Unrolled) (coned : Coned) (reach : Reach) → IsFormulaRun view u coned reach
    → HasNeededTry (seen_in view u reach) view.order
    → HasModel (encoded (encoding_of view u coned)).formula.clauses

-- each literal of each clause is of a variable below a number
abbrev pub AreWithin : ℕ → List (List Lit) → Type 0
AreWithin vars clauses = All (All (λ (l : Lit). l.var < vars)) clauses

-- the clauses have the formula's variables alone
unfoldable pub RangeLaw : Type 0
RangeLaw =
    (view : RunView) (u : Unrolled) (coned : Coned) (reach : Reach) → IsFormulaRun view u coned reach
    → (let form = (encoded (encoding_of view u coned)).formula in AreWithin form.vars form.clauses)

-- a finding names bits and labels below numbers
pub record IsInRun (bits labels : ℕ) (finding : Finding) : Type 0 where
  pub probes : (p : Probe) → Contains finding.probes p → p.bit < bits
  pub seen : (p : Probe) → Contains finding.seen p → p.bit < bits
  pub set : (l : ℕ) → Contains finding.set l → l < labels

-- what a model reads as names bits and labels of the run
unfoldable pub InRunLaw : Type 0
InRunLaw =
    (view : RunView) (u : Unrolled) (coned : Coned) (reach : Reach) → IsFormulaRun view u coned reach
    → (values : ℕ → Bool) → IsModel (encoded (encoding_of view u coned)).formula.clauses values
    → IsInRun u.bits (label_count u.table u.cycles) (finding_of (encoded (encoding_of view u coned)).tables values)
