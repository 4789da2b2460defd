-- How often each node stands in the sum of the sets of pairs, from the last node to the first: a node that stands there
-- an odd number of times hands this on to its origin, or to the operands that its choice has.
use Rattle.std.specs.Prelude.{◌≡◌, ℕ, zero, suc, ◌<◌, ◌^◌, Bool, true, false, not, cond, List, map, length, get_or, slice_set, replicate, Option, Some, None}
use Rattle.std.specs.List.Sorted.{IsStrictlyIncreasing}
use Rattle.coco_base.specs.declared.unrolled.Node.{Node}
use Rattle.coco_base.specs.declared.unrolled.Node.TheVariants.{Nothing, Label, Copy, Gate}
use Rattle.coco_model.specs.Goals.{is_among, variable_of}
use Rattle.label_cone.specs.Coned.{mark_at}
use Rattle.label_cone.specs.NodeCones.{AreOrdered}
use Rattle.circuit_clauses.specs.declared.signal.Signal.{Signal}
use Rattle.circuit_clauses.specs.declared.signal.Signal.TheVariants.{Constant, Literal}
use Rattle.clause_builds.specs.Builds.{Build, done, ◌>>=◌, through}
use Rattle.clause_builds.specs.Rows.{signal_at, xor_into}
use Rattle.node_clauses.specs.Choices.{four_places, has_place, choices}
use Rattle.node_clauses.specs.Selectors.{selectors, no_places, some_has}
use Rattle.node_clauses.specs.declared.sums.Nodes.{Nodes}

-- the nodes of a run, which of them matter, and the labels that have variables, in ascending order
pub record NodeRun : Type 0 where
  pub nodes : List Node
  pub matters : List Bool
  pub labels : List ℕ

-- by node: whether it stands in the sum an odd number of times; by label with a variable: whether the label is in the
-- sum; by node: its choice, place by place
pub record NodeSums : Type 0 where
  pub weights : List Signal
  pub totals : List Signal
  pub selections : List (List Signal)

abbrev pub is_false : Signal → Bool
is_false (Constant bit) = not bit
is_false (Literal lit) = false

-- the place of a label among those with variables
abbrev pub place_of : List ℕ → ℕ → Option ℕ
place_of labels l = cond (is_among labels l) (Some (variable_of labels l)) None

-- what a label stands for goes to the sum at a place, where there is one
abbrev pub add_at : Option ℕ → Signal → List Signal → Build (List Signal)
add_at None weight totals = done totals
add_at (Some place) weight totals = xor_into totals place weight (Constant true)

-- a gate adds what it stands for to an operand, where its choice has the operand's place
abbrev pub add_operand : Signal → ℕ → Signal → List Signal → Build (List Signal)
add_operand chosen operand weight weights =
    cond (is_false chosen) (done weights) (xor_into weights operand chosen weight)

abbrev pub add_operand_at : List Signal → List ℕ → Signal → ℕ → List Signal → Build (List Signal)
add_operand_at selected operands weight place =
    add_operand (signal_at selected place) (get_or operands place 0) weight

abbrev pub add_operands : List Signal → List ℕ → Signal → List Signal → Build (List Signal)
add_operands selected operands weight = through (add_operand_at selected operands weight) four_places

-- the least choice of a gate, place by place
abbrev pub least_choice : List ℕ → List Signal
least_choice numbers = map (λ place. Constant (has_place place (get_or numbers 0 0))) four_places

-- a gate has a choice of some numbers, and adds what it stands for to the operands
abbrev pub add_choice : List ℕ → List ℕ → ℕ → NodeSums → Build NodeSums
add_choice numbers operands i sums =
    selectors numbers >>= (λ (selected : List Signal).
    add_operands selected operands (signal_at sums.weights i) sums.weights >>= (λ (weights : List Signal).
    done (record sums { weights = weights; selections = slice_set sums.selections i selected })))

-- a gate that does not matter has its least choice
abbrev pub set_least : List ℕ → ℕ → NodeSums → NodeSums
set_least numbers i sums = record sums { selections = slice_set sums.selections i (least_choice numbers) }

abbrev pub add_gate : Bool → List ℕ → List ℕ → ℕ → NodeSums → Build NodeSums
add_gate matters numbers operands i sums =
    cond matters (add_choice numbers operands i sums) (done (set_least numbers i sums))

-- a label with a sum, at a place, adds what it stands for to it
abbrev pub add_label : Option ℕ → ℕ → NodeSums → Build NodeSums
add_label total i sums =
    add_at total (signal_at sums.weights i) sums.totals >>= (λ (totals : List Signal). done (record sums { totals = totals }))

-- a copy adds what it stands for to its origin
abbrev pub add_copy : ℕ → ℕ → NodeSums → Build NodeSums
add_copy origin i sums =
    xor_into sums.weights origin (signal_at sums.weights i) (Constant true) >>= (λ (weights : List Signal).
    done (record sums { weights = weights }))

-- a node hands on what it stands for: a label to its sum, a copy to its origin, a gate to its chosen operands
abbrev pub add_this : NodeRun → ℕ → Node → NodeSums → Build NodeSums
add_this run i Nothing sums = done sums
add_this run i (Label l) sums = add_label (place_of run.labels l) i sums
add_this run i (Copy j) sums = add_copy j i sums
add_this run i (Gate kind parts operands) sums =
    add_gate (mark_at run.matters i) (choices kind parts) operands i sums

abbrev pub add_node : NodeRun → ℕ → NodeSums → Build NodeSums
add_node run i = add_this run i (get_or run.nodes i Nothing)

-- the nodes before a number, from the last to the first
abbrev pub add_nodes : NodeRun → ℕ → NodeSums → Build NodeSums
add_nodes run zero sums = done sums
add_nodes run (suc i) sums = add_node run i sums >>= add_nodes run i

-- the sums before any node is added
abbrev pub no_sums : NodeRun → List Signal → NodeSums
no_sums run weights = record {
  weights = weights;
  totals = replicate (length run.labels) (Constant false);
  selections = replicate (length run.nodes) no_places;
}

-- the sums of all nodes, where weights tell which nodes the pairs have
abbrev pub node_sums : NodeRun → List Signal → Build NodeSums
node_sums run weights = add_nodes run (length run.nodes) (no_sums run weights)

-- a sum for each node and label
pub record AreSized (run : NodeRun) (sums : NodeSums) : Type 0 where
  pub weights : length sums.weights ≡ length run.nodes
  pub totals : length sums.totals ≡ length run.labels
  pub selections : length sums.selections ≡ length run.nodes

-- the operands at the places that are not false are below a number
abbrev pub AreChosenBelow : List Signal → List ℕ → ℕ → Type 0
AreChosenBelow selected operands count =
    (j : ℕ) → j < 4 → is_false (signal_at selected j) ≡ false → get_or operands j 0 < count

-- the operands at the places that some number has are below a number
abbrev pub AreSomeBelow : List ℕ → List ℕ → ℕ → Type 0
AreSomeBelow numbers operands count =
    (j : ℕ) → j < 4 → some_has numbers j ≡ true → get_or operands j 0 < count

-- sums have as many signals as others
pub record AreAsLong (sums others : NodeSums) : Type 0 where
  pub weights : length sums.weights ≡ length others.weights
  pub totals : length sums.totals ≡ length others.totals
  pub selections : length sums.selections ≡ length others.selections

-- the nodes of a run, few enough to be numbered, each of which reads earlier ones; for each whether it matters; and
-- labels in ascending order
pub record IsNodeRun (run : NodeRun) : Type 0 where
  pub few : length run.nodes < 2 ^ 32
  pub ordered : AreOrdered run.nodes
  pub marks : length run.matters ≡ length run.nodes
  pub labels : IsStrictlyIncreasing run.labels

-- what contracts see of nodes, their cones and their labels
abbrev pub run_of : Nodes → NodeRun
run_of run = record { nodes = run.nodes.now; matters = run.cones.now.matters; labels = run.labels.now }
