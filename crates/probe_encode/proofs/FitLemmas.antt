-- The formula of a run within the limits fits.
use Rattle.std.proofs.Common.{◌≡◌, ℕ, zero, suc, ◌+◌, ◌*◌, ◌≤◌, Bool, true, false, not, cond, List, [], ◌∷◌, ◌++◌, filter, flat_map, map, length, get_or, refl, sym, ap, ◌∙◌, subst, arith, length-append}
use Rattle.std.specs.List.{range_with_len}
use Rattle.std.proofs.Math.Nat.{mul-le-mul_left}
use Rattle.std.proofs.lemmas.List.{length-map}
use Rattle.std.proofs.lemmas.List.FromFn.{length-range_with_len}
use Rattle.coco_base.specs.declared.labels.LabelTable.{LabelTable}
use Rattle.coco_base.specs.declared.unrolled.Unrolled.{Unrolled}
use Rattle.coco_model.specs.Goals.{is_share_of, same_pairs, whole_bits, goal_clauses}
use Rattle.coco_model.specs.Labels.{IsLabelTable, declared_labels, secret_labels, mask_labels, label_count}
use Rattle.circuit_clauses.specs.declared.signal.Signal.{Signal}
use Rattle.circuit_clauses.specs.Formulas.{Fits}
use Rattle.clause_builds.specs.Builds.{fresh, demanded}
use Rattle.clause_builds.proofs.Sizing.{Takes, Makes, AreAll, takes_more, takes-done, takes-bind, takes-bind_of, makes-bind, makes-done, takes-each, takes-through, takes-fresh, takes-demanded, makes-each}
use Rattle.gate_graph.specs.Graphs.{IsBuilt}
use Rattle.label_cone.specs.Coned.{Coned}
use Rattle.node_clauses.specs.Laws.{variables_a_node, clauses_a_node}
use Rattle.node_clauses.proofs.SizeLemmas.{size}
use Rattle.node_clauses.specs.Sums.{NodeRun, NodeSums, node_sums}
use Rattle.probe_clauses.specs.declared.part.ProbePart.{ProbePart}
use Rattle.probe_clauses.specs.RunViews.{RunView}
use Rattle.probe_clauses.specs.Probings.{probing_of}
use Rattle.probe_clauses.specs.Parts.{probe_part}
use Rattle.probe_clauses.specs.Laws.{most_variables, most_clauses}
use Rattle.probe_clauses.proofs.Sized.{within}
use Rattle.probe_encode.specs.Goals.{label_variables, label_sum, label_sums, same_signals, label_signal, some_holds, goal_demands}
use Rattle.probe_encode.specs.Weights.{pair_weights}
use Rattle.probe_encode.specs.Formulas.{Encoding, Tables, first_part, formula, labels_of, nodes_of, tables_of, encoded}
use Rattle.probe_encode.specs.Sources.{IsSource, encoding_of}
use Rattle.probe_encode.proofs.GoalSizes.{IsAbove, filter_above, few_pairs}
use Rattle.probe_encode.proofs.Pigeons.{few_below}

probes_take : (view : RunView) → IsBuilt view.gates → 1 ≤ view.order
    → Takes (probe_part (probing_of view)) (most_variables view.gates.flat.bits (length view.rows) view.order) (most_clauses view.gates.flat.bits (length view.rows) view.order)
probes_take view built le = record { vars = λ var. (within view var built le).vars; clauses = λ var. (within view var built le).clauses }

nodes_take : (run : NodeRun) (weights : List Signal) → Takes (node_sums run weights) (length run.nodes * variables_a_node) (length run.nodes * clauses_a_node)
nodes_take run weights = record { vars = λ var. (size run weights var).vars; clauses = λ var. (size run weights var).clauses }

as_long : {Y : Type 0} (n : ℕ) (ys : List Y) → AreAll (λ (y : Y). Unit {0}) n ys → length ys ≡ n
as_long zero [] h = refl
as_long zero (y ∷ ys) h = absurd h
as_long (suc n) [] h = absurd h
as_long (suc n) (y ∷ ys) h = ap suc (as_long n ys h.1)

variables_take : (labels : List ℕ) → Takes (label_variables labels) (length labels * 1) (length labels * 0)
variables_take labels = takes-each (λ (l : ℕ). fresh true) labels 1 0 (λ l. takes-fresh true)

variables_made : (labels : List ℕ) → Makes (λ (vs : List Signal). length vs ≡ length labels) (label_variables labels)
variables_made labels = λ var. as_long (length labels) _ (makes-each (λ (s : Signal). Unit {0}) (λ (l : ℕ). fresh true) labels (λ l v. tt) var)

same_take : (one other : Signal) → Takes (same_signals one other) 0 2
same_take one other = takes-bind (demanded _) (λ (all : Unit {0}). demanded _) 0 1 0 1 (takes-demanded _) (λ all. takes-demanded _)

sums_take : (m : ℕ) (variables totals : List Signal) → length variables ≡ m → Takes (label_sums variables totals) 0 (m * 2)
sums_take m variables totals e =
    let n = length-range_with_len 0 (length variables) in
    let k : length (range_with_len 0 (length variables)) ≡ m = n ∙ e in
    takes_more (label_sums variables totals) (length (range_with_len 0 (length variables)) * 0) (length (range_with_len 0 (length variables)) * 2) 0 (m * 2)
    (takes-through (label_sum variables totals) (range_with_len 0 (length variables)) tt 0 2 (λ i all. same_take _ _)) (omega arith) (rw k (omega arith))

few_others : (p : ℕ → Bool) (ls : List ℕ) → length (filter p ls) ≤ length ls
few_others p [] = omega arith
few_others p (l ∷ ls) = pick (p l) (few_others p ls)
  where
    pick : (b : Bool) → length (filter p ls) ≤ length ls → length (cond b (l ∷ filter p ls) (filter p ls)) ≤ suc (length ls)
    pick true le = omega arith
    pick false le = omega arith

few_shares : (table : LabelTable) → IsLabelTable table → length (flat_map (λ (ls : List ℕ). ls) (secret_labels table.secrets)) ≤ 4096
few_shares table is =
    let one = flat_map (λ (ls : List ℕ). ls) (secret_labels table.secrets) in
    let other = flat_map mask_labels table.masks in
    let all : length (declared_labels table) ≤ table.declared = few_below table.declared (declared_labels table) is.once (λ l i. (is.each l).0 i) in
    let e = length-append one other in
    let few = is.few in
    omega (arith, all, e, few)

goal_few : (table : LabelTable) (variables : List Signal) (labels : List ℕ) → IsLabelTable table → IsAbove 0 labels
    → length (goal_clauses (label_signal variables labels) labels (whole_bits table labels)) ≤ length labels + 8193
goal_few table variables labels is above =
    let literal = label_signal variables labels in
    let bits = whole_bits table labels in
    let others = filter (λ l. not (is_share_of bits l)) labels in
    let pairs = flat_map (same_pairs literal) bits in
    let last : List (List Signal) = map (λ (ls : List ℕ). literal (get_or ls 0 0) true) bits ∷ [] in
    let a : length others ≤ length labels = few_others (λ l. not (is_share_of bits l)) labels in
    let b : length pairs ≤ 2 * length (flat_map (λ (ls : List ℕ). ls) (secret_labels table.secrets)) = few_pairs literal labels (secret_labels table.secrets) 0 labels above in
    let s = few_shares table is in
    let first : List (List Signal) = map (λ l. literal l false ∷ []) others in
    let x : length (goal_clauses literal labels bits) ≡ length (first ++ pairs) + length last = length-append (first ++ pairs) last in
    let y : length (first ++ pairs) ≡ length first + length pairs = length-append first pairs in
    let one : length last ≡ 1 = refl in
    let z : length first ≡ length others = length-map others (λ l. literal l false ∷ []) in
    omega (arith, a, b, s, x, y, z, one)

abbrev has_labels : Encoding → Tables → Type 0
has_labels e t = t.labels ≡ labels_of e

first_made : (e : Encoding) → Makes (has_labels e) (first_part e)
first_made e =
    makes-bind (λ (vs : List Signal). Unit {0}) (has_labels e) (label_variables (labels_of e)) _ (λ v. tt) (λ variables a.
    makes-bind (λ (p : ProbePart). Unit {0}) (has_labels e) (probe_part (probing_of e.view)) _ (λ v. tt) (λ part b.
    makes-bind (λ (n : NodeSums). Unit {0}) (has_labels e) (node_sums (nodes_of e) (pair_weights e.view part.pairs)) _ (λ v. tt) (λ sums d.
    makes-bind (λ (u : Unit {0}). Unit {0}) (has_labels e) (label_sums variables sums.totals) _ (λ v. tt) (λ all g.
    makes-done (has_labels e) (tables_of e variables part sums) refl))))

first_takes : (e : Encoding) (m pv pc nv nc : ℕ) → length (labels_of e) ≡ m → Takes (probe_part (probing_of e.view)) pv pc
    → ((weights : List Signal) → Takes (node_sums (nodes_of e) weights) nv nc) → Takes (first_part e) (m * 1 + (pv + (nv + (0 + 0)))) (m * 0 + (pc + (nc + (m * 2 + 0))))
first_takes e m pv pc nv nc len p n =
    takes-bind_of (λ (vs : List Signal). length vs ≡ length (labels_of e)) (label_variables (labels_of e)) _ (m * 1) (m * 0) (pv + (nv + (0 + 0))) (pc + (nc + (m * 2 + 0)))
    (subst (λ k. Takes (label_variables (labels_of e)) (k * 1) (k * 0)) len (variables_take (labels_of e))) (variables_made (labels_of e)) (λ variables long.
    takes-bind (probe_part (probing_of e.view)) _ pv pc (nv + (0 + 0)) (nc + (m * 2 + 0)) p (λ part.
    takes-bind (node_sums (nodes_of e) (pair_weights e.view part.pairs)) _ nv nc (0 + 0) (m * 2 + 0) (n (pair_weights e.view part.pairs)) (λ sums.
    takes-bind (label_sums variables sums.totals) _ 0 (m * 2) 0 0 (sums_take m variables sums.totals (long ∙ len)) (λ all.
    takes-done (tables_of e variables part sums)))))

goal_takes : (e : Encoding) (t : Tables) (m : ℕ) → length (labels_of e) ≡ m → IsLabelTable e.table → IsAbove 0 (labels_of e) → t.labels ≡ labels_of e
    → Takes (goal_demands t.variables e.table t.labels) 0 (m + 8193)
goal_takes e t m len is above same =
    subst (λ ls. Takes (goal_demands t.variables e.table ls) 0 (m + 8193)) (sym same)
    (let clauses = goal_clauses (label_signal t.variables (labels_of e)) (labels_of e) (whole_bits e.table (labels_of e)) in
    let few = goal_few e.table t.variables (labels_of e) is above in
    takes_more (goal_demands t.variables e.table (labels_of e)) (length clauses * 0) (length clauses * 1) 0 (m + 8193)
    (takes-through some_holds clauses tt 0 1 (λ c all. takes-demanded c)) (omega arith) (omega (arith, few, len)))

formula_takes : (e : Encoding) (m v c : ℕ) → length (labels_of e) ≡ m → IsLabelTable e.table → IsAbove 0 (labels_of e) → Takes (first_part e) v c
    → Takes (formula e) (v + (0 + 0)) (c + (m + 8193 + 0))
formula_takes e m v c len is above first =
    takes-bind_of (has_labels e) (first_part e) _ v c (0 + 0) (m + 8193 + 0) first (first_made e) (λ t same.
    takes-bind (goal_demands t.variables e.table t.labels) _ 0 (m + 8193) 0 0 (goal_takes e t m len is above same) (λ all. takes-done t))

-- the numbers
pub fits : (view : RunView) (unrolled : Unrolled) (coned : Coned) → IsBuilt view.gates → IsSource view unrolled coned → Fits (encoded (encoding_of view unrolled coned)).formula
fits view unrolled coned built s =
    let e = encoding_of view unrolled coned in
    let b = view.gates.flat.bits in
    let cycles = length view.rows in
    let d = view.order in
    let n = b * cycles in
    let m = length (labels_of e) in
    let long : length view.nodes ≡ n = ap length s.nodes ∙ (s.unrolled_value.as_long ∙ (ap (λ k. k * unrolled.cycles) s.bits ∙ ap (λ k. b * k) s.cycles)) in
    let first = first_takes e m (most_variables b cycles d) (most_clauses b cycles d) (length view.nodes * 8) (length view.nodes * 40) refl (probes_take view built s.least) (nodes_take (nodes_of e)) in
    let takes = formula_takes e m _ _ refl s.unrolled_value.table (filter_above _ 0 (label_count unrolled.table unrolled.cycles)) first in
    let some : m ≤ label_count unrolled.table unrolled.cycles = subst (λ k. m ≤ k) (length-range_with_len 0 (label_count unrolled.table unrolled.cycles)) (few_others _ (range_with_len 0 (label_count unrolled.table unrolled.cycles))) in
    let area : n * (d + 1) ≤ 16000000 = subst (λ k. k * (d + 1) ≤ 16000000) (ap (λ k. k * unrolled.cycles) s.bits ∙ ap (λ k. b * k) s.cycles) s.small in
    let labels : m ≤ 4096 + n = (let few = s.few_labels in let same : unrolled.bits * unrolled.cycles ≡ n = ap (λ k. k * unrolled.cycles) s.bits ∙ ap (λ k. b * k) s.cycles in omega (arith, some, few, same)) in
    let twice : n * 2 ≤ n * (d + 1) = mul-le-mul_left n (let l = s.least in omega (arith, l)) in
    let nd : n * (d + 1) ≡ n * d + n = omega arith in
    let bd : b * d ≤ 1000000 * 64 = (let one : b * d ≤ b * 64 = mul-le-mul_left b s.most in let low : b ≤ 1000000 = (let f = s.few_bits in let g = s.bits in omega (arith, f, g)) in omega (arith, one, low)) in
    let low : b ≤ 1000000 = (let f = s.few_bits in let g = s.bits in omega (arith, f, g)) in
    let short : cycles ≤ 65536 = (let f = s.few_cycles in let g = s.cycles in omega (arith, f, g)) in
    let v1 : b * (3 * d + 4) ≡ 3 * (b * d) + 4 * b = omega arith in
    let v2 : cycles * b * (6 * d + 7) ≡ 6 * (n * d) + 7 * n = omega arith in
    let c1 : b * (12 * d + 13) ≡ 12 * (b * d) + 13 * b = omega arith in
    let c2 : cycles * b * (24 * d + 24) ≡ 24 * (n * d) + 24 * n = omega arith in
    record {
      vars = (let t = takes.vars 0 in omega (arith, t, v1, v2, bd, low, short, labels, area, nd, twice, long));
      clauses = (let t = takes.clauses 0 in omega (arith, t, c1, c2, bd, low, short, labels, area, nd, twice, long));
    }
