-- All steps of a formula read earlier variables alone.
use Rattle.std.proofs.Common.{ℕ, ◌+◌, ◌<◌, ◌≤◌, Bool, true, false, not, List, [], ◌∷◌, ◌++◌, map, filter, flat_map, length, get_or, sym, subst, arith, inl, inr}
use Rattle.std.specs.List.{AllByRecursion}
use Rattle.std.proofs.lemmas.Bool.{cases_lt}
use Rattle.std.proofs.lemmas.List.{get_or_past}
use Rattle.coco_base.specs.declared.unrolled.Unrolled.{Unrolled}
use Rattle.coco_model.specs.Goals.{variable_of, is_share_of, same_pairs, goal_clauses, whole_bits}
use Rattle.coco_model.specs.Reach.{Reach}
use Rattle.circuit_clauses.specs.declared.signal.Signal.{Signal}
use Rattle.circuit_clauses.specs.declared.signal.Signal.TheVariants.{Constant, Literal}
use Rattle.circuit_clauses.specs.Meanings.{IsBelow, AllReadBelow}
use Rattle.circuit_clauses.specs.Steps.{variables_after}
use Rattle.circuit_clauses.proofs.Sequences.{variables_above}
use Rattle.clause_builds.specs.Builds.{Build, done, through}
use Rattle.clause_builds.specs.Rows.{signal_at}
use Rattle.clause_builds.proofs.Lists.{through-nil, through-cons}
use Rattle.label_cone.specs.Coned.{Coned}
use Rattle.node_laws.specs.Laws.{ReadsLaw}
use Rattle.probe_clauses.specs.RunViews.{RunView}
use Rattle.probe_clauses.specs.Probings.{probing_of}
use Rattle.probe_laws.specs.Laws.{ReadsProbesLaw}
use Rattle.probe_laws.proofs.Lower.{negated_below}
use Rattle.probe_encode.specs.Formulas.{Encoding, formula, labels_of, nodes_of}
use Rattle.probe_encode.specs.Goals.{label_variables, label_signal, some_holds, goal_demands}
use Rattle.probe_encode.specs.Sources.{encoding_of}
use Rattle.formula_laws.specs.Runs.{IsFormulaRun}
use Rattle.formula_laws.specs.Weighing.{WeightsLaw}
use Rattle.formula_laws.specs.Laws.{RangeLaw}
use Rattle.formula_laws.proofs.Pieces.{PartsReadEarlier, first_after, parts_read, reads_both, labels_part, after_labels, probes_part, after_probes, weights_in, nodes_part, after_nodes, after_first, sums_part}
use Rattle.formula_laws.proofs.Ranged.{clauses_within}
use Rattle.formula_laws.proofs.Variables.{are_variables, totals_read}

-- ---- the goal

abbrev Lists : ℕ → List (List Signal) → Type 0
Lists n lists = AllByRecursion (AllByRecursion (IsBelow n)) lists

label_below : (n : ℕ) (variables : List Signal) (labels : List ℕ) → ((i : ℕ) → IsBelow n (signal_at variables i))
    → (l : ℕ) (positive : Bool) → IsBelow n (label_signal variables labels l positive)
label_below n variables labels h l true = h (variable_of labels l)
label_below n variables labels h l false = negated_below n (signal_at variables (variable_of labels l)) (h (variable_of labels l))

lists-append : (n : ℕ) (xs ys : List (List Signal)) → Lists n xs → Lists n ys → Lists n (xs ++ ys)
lists-append n [] ys h k = k
lists-append n (x ∷ xs) ys h k = (h.0, lists-append n xs ys h.1 k)

-- a clause of literals of labels
abbrev Literals : ℕ → (ℕ → Bool → Signal) → Type 0
Literals n literal = (l : ℕ) (positive : Bool) → IsBelow n (literal l positive)

ones_below : (n : ℕ) (literal : ℕ → Bool → Signal) → Literals n literal → (labels : List ℕ) → Lists n (map (λ l. literal l false ∷ []) labels)
ones_below n literal h [] = tt
ones_below n literal h (l ∷ labels) = ((h l false, tt), ones_below n literal h labels)

pairs_below : (n : ℕ) (literal : ℕ → Bool → Signal) → Literals n literal → (ls : List ℕ) → Lists n (same_pairs literal ls)
pairs_below n literal h [] = tt
pairs_below n literal h (k ∷ []) = tt
pairs_below n literal h (k ∷ l ∷ ls) = ((h k false, (h l true, tt)), ((h k true, (h l false, tt)), pairs_below n literal h (l ∷ ls)))

bits_below : (n : ℕ) (literal : ℕ → Bool → Signal) → Literals n literal → (bits : List (List ℕ)) → Lists n (flat_map (same_pairs literal) bits)
bits_below n literal h [] = tt
bits_below n literal h (ls ∷ bits) = lists-append n (same_pairs literal ls) (flat_map (same_pairs literal) bits) (pairs_below n literal h ls) (bits_below n literal h bits)

some_below : (n : ℕ) (literal : ℕ → Bool → Signal) → Literals n literal → (bits : List (List ℕ))
    → AllByRecursion (IsBelow n) (map (λ (ls : List ℕ). literal (get_or ls 0 0) true) bits)
some_below n literal h [] = tt
some_below n literal h (ls ∷ bits) = (h (get_or ls 0 0) true, some_below n literal h bits)

nothing : (n : ℕ) (state : Unit {0}) → AllReadBelow n (done state n).steps
unfolding done
nothing n state = tt

demands_read : (n : ℕ) (clauses : List (List Signal)) (state : Unit {0}) → Lists n clauses → AllReadBelow n (through some_holds clauses state n).steps
demands_read n [] state h = subst (λ (b : Build (Unit {0})). AllReadBelow n (b n).steps) (sym (through-nil some_holds state)) (nothing n state)
demands_read n (c ∷ clauses) state h =
    subst (λ (b : Build (Unit {0})). AllReadBelow n (b n).steps) (sym (through-cons some_holds c clauses state))
    (reads_both n (some_holds c state) (through some_holds clauses) (h.0, tt) (demands_read n clauses tt h.1))

goal_reads : (n : ℕ) (e : Encoding) (variables : List Signal) (labels : List ℕ) → ((i : ℕ) → IsBelow n (signal_at variables i))
    → AllReadBelow n (goal_demands variables e.table labels n).steps
goal_reads n e variables labels h =
    let literal = label_signal variables labels in
    let low = label_below n variables labels h in
    let bits = whole_bits e.table labels in
    let others = filter (λ l. not (is_share_of bits l)) labels in
    let last : Lists n (map (λ (ls : List ℕ). literal (get_or ls 0 0) true) bits ∷ []) = (some_below n literal low bits, tt) in
    demands_read n (goal_clauses literal labels bits) tt
    (lists-append n (map (λ l. literal l false ∷ []) others ++ flat_map (same_pairs literal) bits) _
    (lists-append n (map (λ l. literal l false ∷ []) others) _ (ones_below n literal low others) (bits_below n literal low bits)) last)

-- ---- all parts

-- the laws that say what the parts read
pub record ReadLaws : Type 0 where
  pub weights : WeightsLaw
  pub probes : ReadsProbesLaw
  pub nodes : ReadsLaw

-- the variables of labels are below each later one
variable_below : (labels : List ℕ) (n : ℕ) → variables_after 0 (label_variables labels 0).steps ≤ n
    → (i : ℕ) → IsBelow n (signal_at (label_variables labels 0).result i)
variable_below labels n le i = elim (cases_lt i (length labels)) [
  | inl lt ↦
      let first = are_variables labels 0 in
      let over = first.next in
      let low : IsBelow n (Literal (record { var = 0 + i; positive = true })) = (let l : 0 + i < n = omega (arith, lt, over, le) in l) in
      subst (IsBelow n) (sym (first.each i lt)) low
  | inr past ↦
      let long = (are_variables labels 0).as_long in
      subst (IsBelow n) (sym (get_or_past (label_variables labels 0).result i (Constant false) (omega (arith, past, long)))) tt
]

-- the variables after the first part are at least those after the nodes
later_first : (e : Encoding) → after_nodes e ≤ after_first e
later_first e = subst (λ n. after_nodes e ≤ n) (sym (first_after e)) (variables_above (after_nodes e) (sums_part e).steps)

parts_are_read : ReadLaws → (view : RunView) (u : Unrolled) (coned : Coned) (reach : Reach) → IsFormulaRun view u coned reach
    → PartsReadEarlier (encoding_of view u coned)
unfolding WeightsLaw
parts_are_read laws view u coned reach run =
    let e = encoding_of view u coned in
    let probes = laws.probes (after_labels e) (probing_of view) in
    let w = laws.weights view u coned reach run (after_labels e) in
    let nodes = laws.nodes (after_probes e) (nodes_of e) (weights_in e) w.weighed w.below in
    let to_probes = variables_above (after_labels e) (probes_part e).steps in
    let to_nodes = variables_above (after_probes e) (nodes_part e).steps in
    let to_first = later_first e in
    record {
      labels = (are_variables (labels_of e) 0).reads;
      probes = probes.steps;
      nodes = nodes.steps;
      sums = totals_read (labels_part e).result (nodes_part e).result.totals (after_nodes e)
          (λ i. (variable_below (labels_of e) (after_nodes e) (omega (arith, to_probes, to_nodes)) i, nodes.totals i));
      goal = goal_reads (after_first e) e (labels_part e).result (labels_of e)
          (variable_below (labels_of e) (after_first e) (omega (arith, to_probes, to_nodes, to_first)));
    }

pub formula_range : ReadLaws → RangeLaw
unfolding RangeLaw
formula_range laws view u coned reach run =
    clauses_within 0 (formula (encoding_of view u coned) 0).steps (parts_read (encoding_of view u coned) (parts_are_read laws view u coned reach run))
