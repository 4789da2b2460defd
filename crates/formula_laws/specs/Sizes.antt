-- The law of sizes: the formula of a run is no larger than its need tells.
use Rattle.std.specs.Prelude.{ℕ, ◌+◌, ◌*◌, ◌≤◌, length}
use Rattle.coco_base.specs.declared.unrolled.Unrolled.{Unrolled}
use Rattle.coco_model.specs.Reach.{Reach}
use Rattle.circuit_clauses.specs.Formulas.{Formula}
use Rattle.label_cone.specs.Coned.{Coned}
use Rattle.probe_clauses.specs.RunViews.{RunView}
use Rattle.probe_encode.specs.Formulas.{encoded}
use Rattle.probe_encode.specs.Sources.{encoding_of}
use Rattle.formula_laws.specs.Runs.{IsFormulaRun}

-- a formula has at most so many variables and clauses for a need
pub record IsWithinNeed (need : ℕ) (form : Formula) : Type 0 where
  pub vars : form.vars ≤ 32 * need + 64
  pub clauses : length form.clauses ≤ 64 * need + 64

-- the formula of a run is within the need of its cones
unfoldable pub NeedLaw : Type 0
NeedLaw =
    (view : RunView) (u : Unrolled) (coned : Coned) (reach : Reach) → IsFormulaRun view u coned reach
    → IsWithinNeed coned.need (encoded (encoding_of view u coned)).formula
