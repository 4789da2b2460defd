-- The parts of a formula, one after the other: what each makes, and from which variable on.
use Rattle.std.proofs.Common.{◌≡◌, ℕ, Bool, List, [], ◌++◌, refl, ◌∙◌}
use Rattle.circuit_clauses.specs.declared.signal.Signal.{Signal}
use Rattle.circuit_clauses.specs.Meanings.{AllHold, AllReadBelow}
use Rattle.circuit_clauses.specs.Steps.{variables_after}
use Rattle.circuit_clauses.proofs.Sequences.{hold_front, hold_rest, hold-append, variables_after-append}
use Rattle.clause_builds.specs.Builds.{Build, Built, done, ◌>>=◌}
use Rattle.node_clauses.specs.Sums.{NodeSums, node_sums}
use Rattle.probe_clauses.specs.declared.part.ProbePart.{ProbePart}
use Rattle.probe_clauses.specs.Parts.{probe_part}
use Rattle.probe_clauses.specs.Probings.{probing_of}
use Rattle.probe_encode.specs.Formulas.{Encoding, Tables, labels_of, nodes_of, tables_of, first_part, formula}
use Rattle.probe_encode.specs.Goals.{label_variables, label_sums, goal_demands}
use Rattle.probe_encode.specs.Weights.{pair_weights}
use Rattle.probe_laws.proofs.Lower.{reads-append}

-- ---- one build after another

abbrev pub next_in : {X Y : Type 0} → ℕ → Build X → (X → Build Y) → Built Y
next_in var first next = next (first var).result (variables_after var (first var).steps)

pub hold_first : {X Y : Type 0} (values : ℕ → Bool) (var : ℕ) (first : Build X) (next : X → Build Y)
    → AllHold values var ((first >>= next) var).steps → AllHold values var (first var).steps
unfolding ◌>>=◌
hold_first values var first next h = hold_front values var (first var).steps (next_in var first next).steps h

pub hold_next : {X Y : Type 0} (values : ℕ → Bool) (var : ℕ) (first : Build X) (next : X → Build Y)
    → AllHold values var ((first >>= next) var).steps
    → AllHold values (variables_after var (first var).steps) (next_in var first next).steps
unfolding ◌>>=◌
hold_next values var first next h = hold_rest values var (first var).steps (next_in var first next).steps h

pub hold_both : {X Y : Type 0} (values : ℕ → Bool) (var : ℕ) (first : Build X) (next : X → Build Y)
    → AllHold values var (first var).steps → AllHold values (variables_after var (first var).steps) (next_in var first next).steps
    → AllHold values var ((first >>= next) var).steps
unfolding ◌>>=◌
hold_both values var first next h k = hold-append values var (first var).steps (next_in var first next).steps h k

pub reads_both : {X Y : Type 0} (var : ℕ) (first : Build X) (next : X → Build Y)
    → AllReadBelow var (first var).steps → AllReadBelow (variables_after var (first var).steps) (next_in var first next).steps
    → AllReadBelow var ((first >>= next) var).steps
unfolding ◌>>=◌
reads_both var first next h k = reads-append var (first var).steps (next_in var first next).steps h k

pub result_next : {X Y : Type 0} (var : ℕ) (first : Build X) (next : X → Build Y) → ((first >>= next) var).result ≡ (next_in var first next).result
unfolding ◌>>=◌
result_next var first next = refl

-- ---- the parts

abbrev pub labels_part : Encoding → Built (List Signal)
labels_part e = label_variables (labels_of e) 0

abbrev pub after_labels : Encoding → ℕ
after_labels e = variables_after 0 (labels_part e).steps

abbrev pub probes_part : Encoding → Built ProbePart
probes_part e = probe_part (probing_of e.view) (after_labels e)

abbrev pub after_probes : Encoding → ℕ
after_probes e = variables_after (after_labels e) (probes_part e).steps

abbrev pub weights_in : Encoding → List Signal
weights_in e = pair_weights e.view (probes_part e).result.pairs

abbrev pub nodes_part : Encoding → Built NodeSums
nodes_part e = node_sums (nodes_of e) (weights_in e) (after_probes e)

abbrev pub after_nodes : Encoding → ℕ
after_nodes e = variables_after (after_probes e) (nodes_part e).steps

abbrev pub sums_part : Encoding → Built (Unit {0})
sums_part e = label_sums (labels_part e).result (nodes_part e).result.totals (after_nodes e)

abbrev pub tables_in : Encoding → Tables
tables_in e = tables_of e (labels_part e).result (probes_part e).result (nodes_part e).result

abbrev pub after_first : Encoding → ℕ
after_first e = variables_after 0 (first_part e 0).steps

abbrev pub goal_part : Encoding → Built (Unit {0})
goal_part e = goal_demands (labels_part e).result e.table (labels_of e) (after_first e)

-- values that meet each part
pub record MeetParts (e : Encoding) (values : ℕ → Bool) : Type 0 where
  pub labels : AllHold values 0 (labels_part e).steps
  pub probes : AllHold values (after_labels e) (probes_part e).steps
  pub nodes : AllHold values (after_probes e) (nodes_part e).steps
  pub sums : AllHold values (after_nodes e) (sums_part e).steps
  pub goal : AllHold values (after_first e) (goal_part e).steps

-- what follows of the first part after each of its builds
abbrev from_sums : Encoding → List Signal → ProbePart → NodeSums → Build Tables
from_sums e variables part sums = label_sums variables sums.totals >>= (λ all. done (tables_of e variables part sums))

abbrev from_nodes : Encoding → List Signal → ProbePart → Build Tables
from_nodes e variables part = node_sums (nodes_of e) (pair_weights e.view part.pairs) >>= from_sums e variables part

abbrev from_probes : Encoding → List Signal → Build Tables
from_probes e variables = probe_part (probing_of e.view) >>= from_nodes e variables

abbrev from_first : Encoding → Tables → Build Tables
from_first e tables = goal_demands tables.variables e.table tables.labels >>= (λ all. done tables)

-- the variables after the first part
pub first_after : (e : Encoding) → after_first e ≡ variables_after (after_nodes e) (sums_part e).steps
unfolding ◌>>=◌ done
first_after e =
    let probes = (probes_part e).steps in
    let nodes = (nodes_part e).steps in
    let sums = (sums_part e).steps ++ [] in
    variables_after-append 0 (labels_part e).steps (probes ++ (nodes ++ sums))
    ∙ variables_after-append (after_labels e) probes (nodes ++ sums)
    ∙ variables_after-append (after_probes e) nodes sums
    ∙ variables_after-append (after_nodes e) (sums_part e).steps []

pub first_result : (e : Encoding) → (first_part e 0).result ≡ tables_in e
unfolding ◌>>=◌ done
first_result e = refl

pub formula_result : (e : Encoding) → (formula e 0).result ≡ tables_in e
unfolding ◌>>=◌ done
formula_result e = refl

pub meet_parts : (e : Encoding) (values : ℕ → Bool) → AllHold values 0 (formula e 0).steps → MeetParts e values
unfolding ◌>>=◌ done
meet_parts e values h =
    let front = hold_first values 0 (first_part e) (from_first e) h in
    let last = hold_next values 0 (first_part e) (from_first e) h in
    let probes_on = hold_next values 0 (label_variables (labels_of e)) (from_probes e) front in
    let nodes_on = hold_next values (after_labels e) (probe_part (probing_of e.view)) (from_nodes e (labels_part e).result) probes_on in
    let sums_on = hold_next values (after_probes e) (node_sums (nodes_of e) (weights_in e)) (from_sums e (labels_part e).result (probes_part e).result) nodes_on in
    record {
      labels = hold_first values 0 (label_variables (labels_of e)) (from_probes e) front;
      probes = hold_first values (after_labels e) (probe_part (probing_of e.view)) (from_nodes e (labels_part e).result) probes_on;
      nodes = hold_first values (after_probes e) (node_sums (nodes_of e) (weights_in e)) (from_sums e (labels_part e).result (probes_part e).result) nodes_on;
      sums = hold_first values (after_nodes e) (label_sums (labels_part e).result (nodes_part e).result.totals)
          (λ all. done (tables_in e)) sums_on;
      goal = hold_first values (after_first e) (goal_demands (labels_part e).result e.table (labels_of e)) (λ all. done (tables_in e)) last;
    }

pub parts_meet : (e : Encoding) (values : ℕ → Bool) → MeetParts e values → AllHold values 0 (formula e 0).steps
unfolding ◌>>=◌ done
parts_meet e values m =
    hold_both values 0 (first_part e) (from_first e)
    (hold_both values 0 (label_variables (labels_of e)) (from_probes e) m.labels
    (hold_both values (after_labels e) (probe_part (probing_of e.view)) (from_nodes e (labels_part e).result) m.probes
    (hold_both values (after_probes e) (node_sums (nodes_of e) (weights_in e)) (from_sums e (labels_part e).result (probes_part e).result) m.nodes
    (hold_both values (after_nodes e) (label_sums (labels_part e).result (nodes_part e).result.totals) (λ all. done (tables_in e)) m.sums tt))))
    (hold_both values (after_first e) (goal_demands (labels_part e).result e.table (labels_of e)) (λ all. done (tables_in e)) m.goal tt)

-- each part reads earlier variables alone
pub record PartsReadEarlier (e : Encoding) : Type 0 where
  pub labels : AllReadBelow 0 (labels_part e).steps
  pub probes : AllReadBelow (after_labels e) (probes_part e).steps
  pub nodes : AllReadBelow (after_probes e) (nodes_part e).steps
  pub sums : AllReadBelow (after_nodes e) (sums_part e).steps
  pub goal : AllReadBelow (after_first e) (goal_part e).steps

pub parts_read : (e : Encoding) → PartsReadEarlier e → AllReadBelow 0 (formula e 0).steps
unfolding ◌>>=◌ done
parts_read e m =
    reads_both 0 (first_part e) (from_first e)
    (reads_both 0 (label_variables (labels_of e)) (from_probes e) m.labels
    (reads_both (after_labels e) (probe_part (probing_of e.view)) (from_nodes e (labels_part e).result) m.probes
    (reads_both (after_probes e) (node_sums (nodes_of e) (weights_in e)) (from_sums e (labels_part e).result (probes_part e).result) m.nodes
    (reads_both (after_nodes e) (label_sums (labels_part e).result (nodes_part e).result.totals) (λ all. done (tables_in e)) m.sums tt))))
    (reads_both (after_first e) (goal_demands (labels_part e).result e.table (labels_of e)) (λ all. done (tables_in e)) m.goal tt)
