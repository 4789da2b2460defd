-- The whole formula of a run: its first part, whose models read as tries, and the goal.
use Rattle.std.specs.Prelude.{ℕ, Bool, List, []}
use Rattle.coco_base.specs.declared.labels.LabelTable.{LabelTable}
use Rattle.coco_model.specs.Labels.{label_count}
use Rattle.circuit_clauses.specs.declared.signal.Signal.{Signal}
use Rattle.circuit_clauses.specs.Formulas.{Formula}
use Rattle.clause_builds.specs.Builds.{Build, made, after, done, ◌>>=◌}
use Rattle.probe_clauses.specs.declared.part.ProbePart.{ProbePart}
use Rattle.probe_clauses.specs.RunViews.{RunView}
use Rattle.probe_clauses.specs.Probings.{probing_of}
use Rattle.probe_clauses.specs.Parts.{probe_part}
use Rattle.node_clauses.specs.Sums.{NodeRun, NodeSums, node_sums}
use Rattle.probe_encode.specs.Labels.{pair_labels}
use Rattle.probe_encode.specs.Weights.{pair_weights}
use Rattle.probe_encode.specs.Goals.{label_variables, label_sums, goal_demands}

-- a run, the cones of its nodes and which of these matter, and its labels
pub record Encoding : Type 0 where
  pub view : RunView
  pub cones : List (List ℕ)
  pub matters : List Bool
  pub table : LabelTable
  pub cycles : ℕ

-- what a try is read from: the labels with variables and these; by cycle and bit, whether a probe is chosen and whether a
-- pair is; and by node its choice, place by place
pub record Tables : Type 0 where
  pub labels : List ℕ
  pub variables : List Signal
  pub probes : List (List Signal)
  pub pairs : List (List Signal)
  pub selections : List (List Signal)

abbrev pub labels_of : Encoding → List ℕ
labels_of e = pair_labels e.view e.cones (label_count e.table e.cycles)

abbrev pub nodes_of : Encoding → NodeRun
nodes_of e = record { nodes = e.view.nodes; matters = e.matters; labels = labels_of e }

-- what is read, from the parts
abbrev pub tables_by : List ℕ → List Signal → ProbePart → NodeSums → Tables
tables_by labels variables part sums = record {
  labels = labels;
  variables = variables;
  probes = part.probes;
  pairs = part.pairs;
  selections = sums.selections;
}

abbrev pub tables_of : Encoding → List Signal → ProbePart → NodeSums → Tables
tables_of e variables part sums = tables_by (labels_of e) variables part sums

-- the first part
abbrev pub first_part : Encoding → Build Tables
first_part e =
    label_variables (labels_of e) >>= (λ (variables : List Signal).
    probe_part (probing_of e.view) >>= (λ (part : ProbePart).
    node_sums (nodes_of e) (pair_weights e.view part.pairs) >>= (λ (sums : NodeSums).
    label_sums variables sums.totals >>= (λ all.
    done (tables_of e variables part sums)))))

-- the formula
abbrev pub formula : Encoding → Build Tables
formula e =
    first_part e >>= (λ (tables : Tables).
    goal_demands tables.variables e.table tables.labels >>= (λ all.
    done tables))

-- no variable and no clause
abbrev pub no_formula : Formula
no_formula = record { vars = 0; clauses = [] }

-- a formula, and what a try is read from
pub record EncodedView : Type 0 where
  pub formula : Formula
  pub tables : Tables

-- the formula of a run from variable 0 on
abbrev pub encoded : Encoding → EncodedView
encoded e = record { formula = after no_formula (formula e); tables = made no_formula (formula e) }
