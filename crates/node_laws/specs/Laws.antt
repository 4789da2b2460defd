-- The laws of the clauses of nodes: values that meet them choose a set for each node and tell the sum, and every choice
-- is told by some values.
use Rattle.std.specs.Prelude.{◌≡◌, ℕ, ◌<◌, Bool, List, [], length, get_or, Contains}
use Rattle.coco_model.specs.Findings.{Labels}
use Rattle.coco_model.specs.Goals.{variable_of}
use Rattle.coco_model.specs.Matters.{AreMattering, AreLeastElsewhere}
use Rattle.coco_model.specs.Nodes.{IsNodeSelection}
use Rattle.coco_model.specs.WrittenFindings.{AreZeroElsewhere}
use Rattle.circuit_clauses.specs.declared.signal.Signal.{Signal}
use Rattle.circuit_clauses.specs.Signals.{value}
use Rattle.circuit_clauses.specs.Steps.{variables_after}
use Rattle.circuit_clauses.specs.Meanings.{AllHold, AllReadBelow, IsBelow}
use Rattle.clause_builds.specs.Rows.{signal_at}
use Rattle.label_cone.specs.Coned.{mark_at}
use Rattle.node_clauses.specs.Sums.{NodeRun, NodeSums, IsNodeRun, node_sums}
use Rattle.node_clauses.specs.Chosen.{chosen_numbers}
use Rattle.node_laws.specs.Readings.{AreWhole, AreOfLeaves, weighed_sum}

-- what the laws ask of a run: its nodes are good, the marks tell which nodes matter, and at first no gate is weighed
pub record IsWeighed (run : NodeRun) (weights : List Signal) : Type 0 where
  pub nodes : IsNodeRun run
  pub gates : AreWhole run.nodes
  pub matters : AreMattering run.nodes (mark_at run.matters)
  pub as_long : length weights ≡ length run.nodes
  pub leaves : AreOfLeaves run.nodes weights

-- numbers choose for every node; those of nodes that do not matter are the least, and those of no gates are 0
pub record AreNeededNumbers (run : NodeRun) (numbers : List ℕ) : Type 0 where
  pub sets : ℕ → Labels
  pub selection : IsNodeSelection run.nodes numbers sets
  pub least : AreLeastElsewhere run.nodes numbers
  pub zero : AreZeroElsewhere run.nodes numbers

-- the total of each label with a variable is whether the label is in the sum of the weighed nodes' sets
abbrev pub TellsSums : (ℕ → Bool) → NodeRun → List Signal → NodeSums → Type 0
TellsSums values run weights sums =
    (sets : ℕ → Labels) → IsNodeSelection run.nodes (chosen_numbers values sums.selections) sets
    → (l : ℕ) → Contains run.labels l
    → value values (signal_at sums.totals (variable_of run.labels l))
    ≡ weighed_sum values weights sets (length run.nodes) l

-- values that meet the clauses read as such numbers, and the totals tell the sum
pub record ReadsAsNumbers (values : ℕ → Bool) (run : NodeRun) (weights : List Signal) (sums : NodeSums) : Type 0 where
  pub numbers : AreNeededNumbers run (chosen_numbers values sums.selections)
  pub totals : TellsSums values run weights sums

abbrev pub SoundLaw : Type 0
SoundLaw =
    (values : ℕ → Bool) (var : ℕ) (run : NodeRun) (weights : List Signal) → IsWeighed run weights
    → (let built = node_sums run weights var in
    AllHold values var built.steps → ReadsAsNumbers values run weights built.result)

-- some values go on from given ones, meet the clauses and read as numbers
pub record AreReadFrom (before : ℕ → Bool) (var : ℕ) (run : NodeRun) (weights : List Signal)
    (numbers : List ℕ) : Type 0 where
  pub values : ℕ → Bool
  pub same_before : (v : ℕ) → v < var → values v ≡ before v
  pub meets : AllHold values var (node_sums run weights var).steps
  pub reads : chosen_numbers values (node_sums run weights var).result.selections ≡ numbers

-- each list of such numbers is read from some values, whatever the variables before have
abbrev pub CompleteLaw : Type 0
CompleteLaw =
    (before : ℕ → Bool) (var : ℕ) (run : NodeRun) (weights : List Signal) → IsWeighed run weights
    → ((i : ℕ) → IsBelow var (signal_at weights i)) → (numbers : List ℕ) → AreNeededNumbers run numbers
    → AreReadFrom before var run weights numbers

-- the steps of nodes read earlier variables alone, and the signals of the sums and of the choices are of these and of
-- the steps' own variables
pub record ReadsEarlierVariables (var : ℕ) (run : NodeRun) (weights : List Signal) : Type 0 where
  pub steps : AllReadBelow var (node_sums run weights var).steps
  pub totals : (i : ℕ) → IsBelow (variables_after var (node_sums run weights var).steps)
      (signal_at (node_sums run weights var).result.totals i)
  pub choices : (i place : ℕ) → IsBelow (variables_after var (node_sums run weights var).steps)
      (signal_at (get_or (node_sums run weights var).result.selections i []) place)

-- so what holds of nodes does not depend on what later variables have
abbrev pub ReadsLaw : Type 0
ReadsLaw =
    (var : ℕ) (run : NodeRun) (weights : List Signal) → IsWeighed run weights
    → ((i : ℕ) → IsBelow var (signal_at weights i)) → ReadsEarlierVariables var run weights
