-- The laws of labels: those with variables are those that probes can show, and sets have no others.
use Rattle.std.specs.Prelude.{◌≡◌, ℕ, ◌<◌, true, List, [], length, Contains}
use Rattle.coco_base.specs.declared.unrolled.Unrolled.{Unrolled}
use Rattle.coco_model.specs.Cones.{IsInCone}
use Rattle.coco_model.specs.Findings.{Labels}
use Rattle.coco_model.specs.Goals.{AreProbedLabels, IsProbedLabel}
use Rattle.coco_model.specs.Labels.{secret_labels}
use Rattle.coco_model.specs.Nodes.{IsNodeSelection}
use Rattle.coco_model.specs.Reach.{Reach}
use Rattle.coco_model.specs.UnrolledRuns.{IsUnrolledValue, node_at}
use Rattle.coco_model.specs.WrittenFindings.{ProbedRun}
use Rattle.label_cone.specs.Coned.{Coned}
use Rattle.probe_clauses.specs.RunViews.{RunView}
use Rattle.probe_encode.specs.Formulas.{encoded, labels_of}
use Rattle.probe_encode.specs.Sources.{encoding_of}
use Rattle.formula_laws.specs.Runs.{IsFormulaRun, seen_in}

-- the labels with variables are those in the cones of all probes
unfoldable pub LabelsLaw : Type 0
LabelsLaw =
    (view : RunView) (u : Unrolled) (coned : Coned) (reach : Reach) → IsFormulaRun view u coned reach
    → AreProbedLabels (seen_in view u reach) (labels_of (encoding_of view u coned))

-- the sets of a selection lie in the cones of the nodes
unfoldable pub NodeConesLaw : Type 0
NodeConesLaw =
    (u : Unrolled) → IsUnrolledValue u → (numbers : List ℕ) (sets : ℕ → Labels) → IsNodeSelection u.nodes numbers sets
    → (i l : ℕ) → i < length u.nodes → sets i l ≡ true → IsInCone (node_at u) l i

-- probes can show all shares of some secret bit: the run is covered
pub record HasProbedBit (run : ProbedRun) : Type 0 where
  pub shares : List ℕ
  pub secret : Contains (secret_labels run.table.secrets) shares
  pub each : (l : ℕ) → Contains shares l → IsProbedLabel run l

-- a formula without the empty clause is that of a covered run
unfoldable pub EmptyClauseLaw : Type 0
EmptyClauseLaw =
    (view : RunView) (u : Unrolled) (coned : Coned) (reach : Reach) → IsFormulaRun view u coned reach
    → (Contains (encoded (encoding_of view u coned)).formula.clauses [] → ⊥) → HasProbedBit (seen_in view u reach)
