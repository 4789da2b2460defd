-- What the clauses of nodes cost.
use Rattle.std.proofs.Common.{ℕ, zero, suc, ◌+◌, ◌*◌, ◌^◌, ◌≤◌, Bool, true, false, cond, List, [], length-append, length, map, get_or, Option, Some, None, arith}
use Rattle.coco_base.specs.declared.unrolled.Node.{Node}
use Rattle.coco_base.specs.declared.unrolled.Node.TheVariants.{Nothing, Label, Copy, Gate}
use Rattle.circuit_clauses.specs.declared.signal.Signal.{Signal}
use Rattle.circuit_clauses.specs.Steps.{variables_after, clauses_of_steps, step_clauses, gate_signal, xor_and_disjunctions}
use Rattle.circuit_clauses.specs.Steps.Step.{xor_and_gate}
use Rattle.circuit_clauses.specs.Gates.{made_by, known_xor_and}
use Rattle.circuit_clauses.specs.Formulas.{Formula, Fits}
use Rattle.circuit_clauses.proofs.Sizes.{length-disjunctions}
use Rattle.clause_builds.specs.Builds.{Build, after, done, ◌>>=◌, xor_gate}
use Rattle.clause_builds.proofs.Sizing.{Takes, takes-done, takes-bind, takes_more, takes-through, takes-fresh, takes-demanded}
use Rattle.node_clauses.specs.Choices.{four_places, set_numbers, choices}
use Rattle.node_clauses.specs.Selectors.{known_or_fresh, known_place, add_place, add_places, differs_unless, differs_at, differs, others_differ, selectors, no_places}
use Rattle.node_clauses.specs.Sums.{NodeRun, NodeSums, is_false, add_operand_at, add_operands, add_at, add_label, add_copy, add_gate, add_this, add_node, add_nodes, node_sums, no_sums, set_least, place_of}
use Rattle.circuit_clauses.specs.declared.signal.Signal.TheVariants.{Constant}
use Rattle.clause_builds.specs.Rows.{signal_at, xor_into}
use Rattle.node_clauses.specs.Laws.{variables_a_node, clauses_a_node, SizeLaw}
use Rattle.label_cone.specs.Coned.{mark_at}
use Rattle.coco_model.specs.Goals.{is_among}

xor_vars : (known : Option Signal) (var : ℕ) (a p b : Signal) → variables_after var (made_by known var (xor_and_gate a p b)).steps ≤ var + 1
xor_vars (Some s) var a p b = omega arith
xor_vars None var a p b = omega arith

xor_clauses : (known : Option Signal) (var : ℕ) (a p b : Signal) → length (clauses_of_steps var (made_by known var (xor_and_gate a p b)).steps) ≤ 6
xor_clauses (Some s) var a p b = omega arith
xor_clauses None var a p b =
    let six = length-disjunctions (xor_and_disjunctions a p b (gate_signal var)) in
    let both = length-append (step_clauses var (xor_and_gate a p b)) [] in
    omega arith

takes-xor_gate : (a p b : Signal) → Takes (xor_gate a p b) 1 6
takes-xor_gate a p b =
    record { vars = λ var. xor_vars (known_xor_and a p b) var a p b; clauses = λ var. xor_clauses (known_xor_and a p b) var a p b }

takes-xor_into : (row : List Signal) (place : ℕ) (p b : Signal) → Takes (xor_into row place p b) 1 6
takes-xor_into row place p b =
    takes-bind (xor_gate (signal_at row place) p b) _ 1 6 0 0 (takes-xor_gate (signal_at row place) p b) (λ s. takes-done _)

known_costs : (known : Option Signal) → Takes (known_or_fresh known) 1 0
known_costs None = takes-fresh false
known_costs (Some s) = takes_more (done s) 0 0 1 0 (takes-done s) (omega arith) (omega arith)

place_costs : (numbers : List ℕ) (place : ℕ) (selected : List Signal) → Takes (add_place numbers place selected) 1 0
place_costs numbers place selected =
    takes-bind (known_or_fresh (known_place numbers selected place)) _ 1 0 0 0 (known_costs (known_place numbers selected place)) (λ s. takes-done _)

unless_costs : (among : Bool) (build : Build (Unit {0})) → Takes build 0 1 → Takes (cond among (done tt) build) 0 1
unless_costs true build h = takes_more (done tt) 0 0 0 1 (takes-done tt) (omega arith) (omega arith)
unless_costs false build h = h

differ_costs : (numbers : List ℕ) (selected : List Signal) (number : ℕ) (all : Unit {0}) → Takes (differs_unless numbers selected number all) 0 1
differ_costs numbers selected number all =
    unless_costs (is_among numbers number) (differs selected number) (takes-demanded (map (differs_at selected number) four_places))

places_costs : (numbers : List ℕ) (selected : List Signal) → Takes (add_places numbers selected) 4 0
places_costs numbers selected = takes-through (add_place numbers) four_places selected 1 0 (place_costs numbers)

others_costs : (numbers : List ℕ) (selected : List Signal) → Takes (others_differ numbers selected) 0 16
others_costs numbers selected = takes-through (differs_unless numbers selected) set_numbers tt 0 1 (differ_costs numbers selected)

selectors_costs : (numbers : List ℕ) → Takes (selectors numbers) 4 16
selectors_costs numbers =
    takes-bind (add_places numbers no_places) _ 4 0 0 16 (places_costs numbers no_places)
    (λ selected. takes-bind (others_differ numbers selected) _ 0 16 0 0 (others_costs numbers selected) (λ all. takes-done selected))

operand_costs : (false_there : Bool) (weights : List Signal) (operand : ℕ) (chosen weight : Signal)
    → Takes (cond false_there (done weights) (xor_into weights operand chosen weight)) 1 6
operand_costs true weights operand chosen weight = takes_more (done weights) 0 0 1 6 (takes-done weights) (omega arith) (omega arith)
operand_costs false weights operand chosen weight = takes-xor_into weights operand chosen weight

operands_costs : (selected : List Signal) (operands : List ℕ) (weight : Signal) (weights : List Signal) → Takes (add_operands selected operands weight weights) 4 24
operands_costs selected operands weight weights =
    takes-through (add_operand_at selected operands weight) four_places weights 1 6
    (λ place row. operand_costs (is_false (signal_at selected place)) row (get_or operands place 0) (signal_at selected place) weight)

at_costs : (place : Option ℕ) (weight : Signal) (totals : List Signal) → Takes (add_at place weight totals) 1 6
at_costs None weight totals = takes_more (done totals) 0 0 1 6 (takes-done totals) (omega arith) (omega arith)
at_costs (Some place) weight totals = takes-xor_into totals place weight (Constant true)

gate_costs : (matters : Bool) (numbers operands : List ℕ) (i : ℕ) (sums : NodeSums) → Takes (add_gate matters numbers operands i sums) 8 40
gate_costs false numbers operands i sums = takes_more (done (set_least numbers i sums)) 0 0 8 40 (takes-done _) (omega arith) (omega arith)
gate_costs true numbers operands i sums =
    takes-bind (selectors numbers) _ 4 16 4 24 (selectors_costs numbers)
    (λ selected. takes-bind (add_operands selected operands (signal_at sums.weights i) sums.weights) _ 4 24 0 0
    (operands_costs selected operands (signal_at sums.weights i) sums.weights) (λ weights. takes-done _))

this_costs : (run : NodeRun) (i : ℕ) (node : Node) (sums : NodeSums) → Takes (add_this run i node sums) variables_a_node clauses_a_node
this_costs run i Nothing sums = takes_more (done sums) 0 0 8 40 (takes-done sums) (omega arith) (omega arith)
this_costs run i (Label l) sums =
    let total = place_of run.labels l in
    takes_more (add_label total i sums) 1 6 8 40
    (takes-bind (add_at total (signal_at sums.weights i) sums.totals) _ 1 6 0 0 (at_costs total (signal_at sums.weights i) sums.totals) (λ totals. takes-done _)) (omega arith) (omega arith)
this_costs run i (Copy j) sums =
    takes_more (add_copy j i sums) 1 6 8 40
    (takes-bind (xor_into sums.weights j (signal_at sums.weights i) (Constant true)) _ 1 6 0 0 (takes-xor_into sums.weights j (signal_at sums.weights i) (Constant true)) (λ weights. takes-done _)) (omega arith) (omega arith)
this_costs run i (Gate kind parts operands) sums = gate_costs (mark_at run.matters i) (choices kind parts) operands i sums

nodes_costs : (run : NodeRun) (n : ℕ) (sums : NodeSums) → Takes (add_nodes run n sums) (n * variables_a_node) (n * clauses_a_node)
nodes_costs run zero sums = takes_more (done sums) 0 0 (0 * variables_a_node) (0 * clauses_a_node) (takes-done sums) (omega arith) (omega arith)
nodes_costs run (suc n) sums =
    takes_more (add_node run n sums >>= add_nodes run n) (variables_a_node + n * variables_a_node) (clauses_a_node + n * clauses_a_node) (suc n * variables_a_node) (suc n * clauses_a_node)
    (takes-bind (add_node run n sums) (add_nodes run n) variables_a_node clauses_a_node (n * variables_a_node) (n * clauses_a_node)
    (this_costs run n (get_or run.nodes n Nothing) sums) (nodes_costs run n)) (omega arith) (omega arith)

sums_take : (run : NodeRun) (weights : List Signal) → Takes (node_sums run weights) (length run.nodes * variables_a_node) (length run.nodes * clauses_a_node)
sums_take run weights = nodes_costs run (length run.nodes) (no_sums run weights)

pub size : SizeLaw
size run weights var =
    record { vars = (sums_take run weights).vars var; clauses = (sums_take run weights).clauses var }

-- the clauses of nodes fit where there is room for the most
pub sums_fit : (f : Formula) (run : NodeRun) (weights : List Signal) → f.vars + length run.nodes * variables_a_node ≤ 2 ^ 30
    → length f.clauses + length run.nodes * clauses_a_node ≤ 2 ^ 31 → Fits (after f (node_sums run weights))
sums_fit f run weights v c =
    let within = size run weights f.vars in
    let both = length-append f.clauses (clauses_of_steps f.vars (node_sums run weights f.vars).steps) in
    record { vars = omega (arith, within.vars, v); clauses = omega (arith, within.clauses, both, c) }
