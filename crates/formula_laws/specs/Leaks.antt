-- The law of the goal: its clauses say that a set of labels shows a leak.
use Rattle.std.specs.Prelude.{◌≡◌, ℕ, Bool, true, List, Contains, ◌↔◌}
use Rattle.std.specs.List.Sorted.{IsStrictlyIncreasing}
use Rattle.coco_base.specs.declared.labels.LabelTable.{LabelTable}
use Rattle.coco_model.specs.Findings.{Labels}
use Rattle.coco_model.specs.Goals.{variable_of}
use Rattle.coco_model.specs.Labels.{IsLabelTable}
use Rattle.coco_model.specs.WrittenFindings.{IsLeakingSet}
use Rattle.circuit_clauses.specs.declared.signal.Signal.{Signal}
use Rattle.circuit_clauses.specs.Meanings.{AllHold}
use Rattle.circuit_clauses.specs.Signals.{value}
use Rattle.clause_builds.specs.Rows.{signal_at}
use Rattle.probe_encode.specs.Goals.{goal_demands}

-- the variables of labels tell a set of these labels alone
pub record TellsSet (values : ℕ → Bool) (variables : List Signal) (labels : List ℕ) (set : Labels) : Type 0 where
  pub told : (l : ℕ) → Contains labels l → value values (signal_at variables (variable_of labels l)) ≡ set l
  pub within : (l : ℕ) → set l ≡ true → Contains labels l

unfoldable pub GoalLaw : Type 0
GoalLaw =
    (values : ℕ → Bool) (var : ℕ) (variables : List Signal) (table : LabelTable) (labels : List ℕ) (set : Labels)
    → IsLabelTable table → IsStrictlyIncreasing labels → TellsSet values variables labels set
    → AllHold values var (goal_demands variables table labels var).steps ↔ IsLeakingSet table set
