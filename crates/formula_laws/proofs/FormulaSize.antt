-- A formula is as small as the need of its run: the sizes of its parts together.
use Rattle.std.proofs.Common.{◌≡◌, ℕ, zero, suc, ◌+◌, ◌*◌, ◌≤◌, true, List, [], ◌∷◌, length, refl, sym, ap, ◌∙◌, subst, arith}
use Rattle.std.specs.List.{range_with_len}
use Rattle.std.proofs.Math.Nat.{mul-le-mul_left}
use Rattle.std.proofs.lemmas.List.FromFn.{length-range_with_len}
use Rattle.coco_model.specs.Goals.{whole_bits, goal_clauses}
use Rattle.coco_model.specs.Labels.{IsLabelTable, label_count}
use Rattle.circuit_clauses.specs.declared.signal.Signal.{Signal}
use Rattle.clause_builds.specs.Builds.{fresh, demanded}
use Rattle.clause_builds.proofs.Sizing.{Takes, Makes, AreAll, takes_more, takes-done, takes-bind, takes-bind_of, makes-bind, makes-done, takes-each, takes-through, takes-fresh, takes-demanded, makes-each}
use Rattle.node_clauses.proofs.SizeLemmas.{size}
use Rattle.node_clauses.specs.Sums.{NodeRun, NodeSums, node_sums}
use Rattle.probe_clauses.specs.declared.part.ProbePart.{ProbePart}
use Rattle.probe_clauses.specs.Probings.{probing_of}
use Rattle.probe_clauses.specs.Parts.{probe_part}
use Rattle.probe_encode.specs.Goals.{label_variables, label_sum, label_sums, same_signals, label_signal, some_holds, goal_demands}
use Rattle.probe_encode.specs.Weights.{pair_weights}
use Rattle.probe_encode.specs.Formulas.{Encoding, Tables, first_part, formula, labels_of, nodes_of, tables_of}
use Rattle.probe_encode.specs.Sources.{encoding_of}
use Rattle.probe_encode.proofs.GoalSizes.{IsAbove, filter_above}
use Rattle.formula_laws.specs.Labelled.{LabelsLaw}
use Rattle.formula_laws.specs.Sizes.{NeedLaw}
use Rattle.formula_laws.proofs.Gathered.{few_labels}
use Rattle.formula_laws.proofs.GoalSize.{goal_size}
use Rattle.formula_laws.proofs.ProbeSize.{probe_size}

-- ---- the labels' variables, and their sums

as_long : {Y : Type 0} (n : ℕ) (ys : List Y) → AreAll (λ (y : Y). Unit {0}) n ys → length ys ≡ n
as_long zero [] h = refl
as_long zero (y ∷ ys) h = absurd h
as_long (suc n) [] h = absurd h
as_long (suc n) (y ∷ ys) h = ap suc (as_long n ys h.1)

variables_made : (labels : List ℕ) → Makes (λ (vs : List Signal). length vs ≡ length labels) (label_variables labels)
variables_made labels = λ var. as_long (length labels) _ (makes-each (λ (s : Signal). Unit {0}) (λ (l : ℕ). fresh true) labels (λ l v. tt) var)

same_take : (one other : Signal) → Takes (same_signals one other) 0 2
same_take one other = takes-bind (demanded _) (λ (all : Unit {0}). demanded _) 0 1 0 1 (takes-demanded _) (λ all. takes-demanded _)

sums_take : (variables totals : List Signal) (m : ℕ) → length variables ≡ m → Takes (label_sums variables totals) 0 (m * 2)
sums_take variables totals m e =
    let places = range_with_len 0 (length variables) in
    let k : length places ≡ m = length-range_with_len 0 (length variables) ∙ e in
    takes_more (label_sums variables totals) (length places * 0) (length places * 2) 0 (m * 2)
    (takes-through (label_sum variables totals) places tt 0 2 (λ i all. same_take _ _)) (omega arith) (rw k (omega arith))

-- ---- the formula, by the sizes of the parts about probes and about nodes

abbrev has_labels : Encoding → Tables → Type 0
has_labels e t = t.labels ≡ labels_of e

first_made : (e : Encoding) → Makes (has_labels e) (first_part e)
first_made e =
    makes-bind (λ (vs : List Signal). Unit {0}) (has_labels e) (label_variables (labels_of e)) _ (λ v. tt) (λ variables a.
    makes-bind (λ (p : ProbePart). Unit {0}) (has_labels e) (probe_part (probing_of e.view)) _ (λ v. tt) (λ part b.
    makes-bind (λ (n : NodeSums). Unit {0}) (has_labels e) (node_sums (nodes_of e) (pair_weights e.view part.pairs)) _ (λ v. tt) (λ sums d.
    makes-bind (λ (u : Unit {0}). Unit {0}) (has_labels e) (label_sums variables sums.totals) _ (λ v. tt) (λ all g.
    makes-done (has_labels e) (tables_of e variables part sums) refl))))

first_takes : (e : Encoding) (pv pc nv nc : ℕ) → Takes (probe_part (probing_of e.view)) pv pc
    → ((weights : List Signal) → Takes (node_sums (nodes_of e) weights) nv nc)
    → (let m = length (labels_of e) in Takes (first_part e) (m * 1 + (pv + (nv + 0))) (m * 0 + (pc + (nc + m * 2))))
first_takes e pv pc nv nc p n =
    let m = length (labels_of e) in
    takes_more (first_part e) (m * 1 + (pv + (nv + (0 + 0)))) (m * 0 + (pc + (nc + (m * 2 + 0)))) (m * 1 + (pv + (nv + 0))) (m * 0 + (pc + (nc + m * 2)))
    (takes-bind_of (λ (vs : List Signal). length vs ≡ m) (label_variables (labels_of e)) _ (m * 1) (m * 0) (pv + (nv + (0 + 0))) (pc + (nc + (m * 2 + 0)))
    (takes-each (λ (l : ℕ). fresh true) (labels_of e) 1 0 (λ l. takes-fresh true)) (variables_made (labels_of e)) (λ variables long.
    takes-bind (probe_part (probing_of e.view)) _ pv pc (nv + (0 + 0)) (nc + (m * 2 + 0)) p (λ part.
    takes-bind (node_sums (nodes_of e) (pair_weights e.view part.pairs)) _ nv nc (0 + 0) (m * 2 + 0) (n (pair_weights e.view part.pairs)) (λ sums.
    takes-bind (label_sums variables sums.totals) _ 0 (m * 2) 0 0 (sums_take variables sums.totals m long) (λ all.
    takes-done (tables_of e variables part sums)))))) (omega arith) (omega arith)

goal_takes : (e : Encoding) (variables : List Signal) → IsLabelTable e.table → IsAbove 0 (labels_of e)
    → Takes (goal_demands variables e.table (labels_of e)) 0 (3 * length (labels_of e) + 1)
goal_takes e variables is above =
    let literal = label_signal variables (labels_of e) in
    let clauses = goal_clauses literal (labels_of e) (whole_bits e.table (labels_of e)) in
    let few = goal_size literal e.table (labels_of e) is above in
    takes_more (goal_demands variables e.table (labels_of e)) (length clauses * 0) (length clauses * 1) 0 (3 * length (labels_of e) + 1)
    (takes-through some_holds clauses tt 0 1 (λ c all. takes-demanded c)) (omega arith) (omega (arith, few))

formula_takes : (e : Encoding) (v c : ℕ) → IsLabelTable e.table → IsAbove 0 (labels_of e) → Takes (first_part e) v c
    → Takes (formula e) (v + (0 + 0)) (c + (3 * length (labels_of e) + 1 + 0))
formula_takes e v c is above first =
    let g = 3 * length (labels_of e) + 1 in
    takes-bind_of (has_labels e) (first_part e) _ v c (0 + 0) (g + 0) first (first_made e) (λ t same.
    takes-bind (goal_demands t.variables e.table t.labels) _ 0 g 0 0
    (subst (λ ls. Takes (goal_demands t.variables e.table ls) 0 g) (sym same) (goal_takes e t.variables is above)) (λ all. takes-done t))

-- ---- the need

nodes_take : (run : NodeRun) (weights : List Signal) → Takes (node_sums run weights) (length run.nodes * 8) (length run.nodes * 40)
nodes_take run weights = record { vars = λ var. (size run weights var).vars; clauses = λ var. (size run weights var).clauses }

pub need_size : LabelsLaw → NeedLaw
unfolding NeedLaw
need_size law view u coned reach run =
    let s = run.source in
    let e = encoding_of view u coned in
    let n = view.gates.flat.bits * length view.rows in
    let area = n * (view.order + 1) in
    let same : u.bits * u.cycles ≡ n = ap (λ k. k * u.cycles) s.bits ∙ ap (λ k. view.gates.flat.bits * k) s.cycles in
    let long : length view.nodes ≡ n = ap length s.nodes ∙ (s.unrolled_value.as_long ∙ same) in
    let first = first_takes e (12 * area) (43 * area + 1) (length view.nodes * 8) (length view.nodes * 40)
    (probe_size view run.built s.least) (nodes_take (nodes_of e)) in
    let takes = formula_takes e _ _ s.unrolled_value.table (filter_above _ 0 (label_count u.table u.cycles)) first in
    let twice : n * 2 ≤ area = mul-le-mul_left n (let l = s.least in omega (arith, l)) in
    let labels = few_labels law view u coned reach run in
    let product : u.bits * u.cycles * (view.order + 1) ≡ area = ap (λ k. k * (view.order + 1)) same in
    let need = s.coned_run.need in
    record {
      vars = (let t = takes.vars 0 in omega (arith, t, twice, long, labels, product, need));
      clauses = (let t = takes.clauses 0 in omega (arith, t, twice, long, labels, product, need));
    }
