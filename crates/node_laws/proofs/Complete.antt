-- Every choice for the nodes of a run is read from some values that meet the clauses.
use Rattle.std.proofs.Common.{◌≡◌, ℕ, zero, suc, ◌<◌, ◌≤◌, Bool, false, List, [], map, length, get_or, replicate, refl, sym, ◌∙◌, subst, arith, inl, inr}
use Rattle.std.proofs.lemmas.Bool.{cases_lt}
use Rattle.std.proofs.lemmas.List.{length-map, get_or-map, length-replicate, get_or-replicate, get_or_past, ext_get_or}
use Rattle.coco_base.specs.declared.cell.Kind.{Kind}
use Rattle.coco_base.specs.declared.cell.Part.{Part}
use Rattle.coco_base.specs.declared.unrolled.Node.{Node}
use Rattle.coco_base.specs.declared.unrolled.Node.TheVariants.{Nothing, Label, Copy, Gate}
use Rattle.coco_model.specs.Matters.{IsLeastChoice}
use Rattle.coco_model.specs.WrittenFindings.{IsNoGate}
use Rattle.circuit_clauses.specs.declared.signal.Signal.{Signal}
use Rattle.circuit_clauses.specs.declared.signal.Signal.TheVariants.{Constant}
use Rattle.circuit_clauses.specs.Laws.{EvaluationLaw}
use Rattle.circuit_clauses.specs.Meanings.{IsBelow}
use Rattle.clause_builds.specs.Rows.{signal_at}
use Rattle.walsh_laws.specs.Unrolled.{LeastChoiceLaw}
use Rattle.node_clauses.specs.Choices.{choices}
use Rattle.node_clauses.specs.Selectors.{no_places}
use Rattle.node_clauses.specs.Sums.{NodeRun, NodeSums, add_this, add_node, add_nodes, no_sums, node_sums}
use Rattle.node_clauses.specs.Chosen.{chosen_number, chosen_numbers}
use Rattle.node_laws.specs.Laws.{IsWeighed, AreNeededNumbers, CompleteLaw, ReadsLaw}
use Rattle.node_laws.proofs.Numbers.{least_first}
use Rattle.node_laws.proofs.Extending.{Extends, extends-done, extends-bind, RowBelow}
use Rattle.node_laws.proofs.Kept.{Kept, nothing_extends, label_extends, copy_extends}
use Rattle.node_laws.proofs.KeptGates.{gate_extends}
use Rattle.node_laws.proofs.Sets.{sets_by, sets_follow}

node_extends : EvaluationLaw → LeastChoiceLaw → (run : NodeRun) (weights : List Signal) → IsWeighed run weights → (numbers : List ℕ) → AreNeededNumbers run numbers
    → (n now : ℕ) (values : ℕ → Bool) (sums : NodeSums) → n < length run.nodes → Kept run numbers (suc n) now values sums
    → Extends values now (add_node run n sums) (Kept run numbers n)
node_extends law leasts run weights good numbers needed n now values sums within kept = go (get_or run.nodes n Nothing) refl
  where
    zero_there : IsNoGate (get_or run.nodes n Nothing) → get_or numbers n 0 ≡ 0
    zero_there = needed.zero.zero n within

    go : (node : Node) → get_or run.nodes n Nothing ≡ node → Extends values now (add_this run n node sums) (Kept run numbers n)
    go Nothing e = nothing_extends run numbers n now values sums (zero_there (λ k ps os f. let g : ◌≡◌ {A = Node} Nothing (Gate k ps os) = sym e ∙ f in cc)) kept
    go (Label k) e = label_extends law run numbers n now k values sums (zero_there (λ kind ps os f. let g : Label k ≡ Gate kind ps os = sym e ∙ f in cc)) kept
    go (Copy j) e = copy_extends law run numbers n now j values sums (zero_there (λ kind ps os f. let g : Copy j ≡ Gate kind ps os = sym e ∙ f in cc)) kept
    go (Gate kind parts operands) e = gate_extends law leasts run weights good numbers needed n now values kind parts operands sums within e kept

nodes_extend : EvaluationLaw → LeastChoiceLaw → (run : NodeRun) (weights : List Signal) → IsWeighed run weights → (numbers : List ℕ) → AreNeededNumbers run numbers
    → (n now : ℕ) (values : ℕ → Bool) (sums : NodeSums) → n ≤ length run.nodes → Kept run numbers n now values sums
    → Extends values now (add_nodes run n sums) (Kept run numbers 0)
nodes_extend law leasts run weights good numbers needed zero now values sums within kept = extends-done values now (Kept run numbers 0) sums kept
nodes_extend law leasts run weights good numbers needed (suc n) now values sums within kept =
    extends-bind values now (Kept run numbers 0) (Kept run numbers n) (add_node run n sums) (add_nodes run n)
    (node_extends law leasts run weights good numbers needed n now values sums (omega arith) kept)
    (λ (next : NodeSums) later others up same k. nodes_extend law leasts run weights good numbers needed n later others next (omega arith) k)

falses_below : (now n : ℕ) → RowBelow now (replicate n (Constant false))
falses_below now n i = elim (cases_lt i n) [
  | inl lt ↦ subst (IsBelow now) (sym (get_or-replicate n i (Constant false) (Constant false) lt)) tt
  | inr past ↦ subst (IsBelow now) (sym (get_or_past (replicate n (Constant false)) i (Constant false) (let e = length-replicate n (Constant false) in omega arith))) tt
]

kept_at_first : (run : NodeRun) (weights : List Signal) (numbers : List ℕ) (now : ℕ) (values : ℕ → Bool) → length weights ≡ length run.nodes
    → ((i : ℕ) → IsBelow now (signal_at weights i)) → Kept run numbers (length run.nodes) now values (no_sums run weights)
kept_at_first run weights numbers now values long low = record {
  sized = record {
    weights = long;
    totals = length-replicate (length run.labels) (Constant false);
    selections = length-replicate (length run.nodes) no_places;
  };
  weights = low;
  totals = falses_below now (length run.labels);
  reads = λ i le lt. absurd (omega arith);
  unset = λ i lt. get_or-replicate (length run.nodes) i no_places [] lt;
}

numbers_read : (run : NodeRun) (numbers : List ℕ) (now : ℕ) (values : ℕ → Bool) (sums : NodeSums) → length numbers ≡ length run.nodes
    → Kept run numbers 0 now values sums → chosen_numbers values sums.selections ≡ numbers
numbers_read run numbers now values sums long kept =
    ext_get_or 0 (chosen_numbers values sums.selections) numbers (as_long ∙ sym long)
    (λ i lt. get_or-map (chosen_number values) sums.selections i [] 0 (omega (arith, lt, length-map sums.selections (chosen_number values)))
    ∙ (kept.reads i (omega arith) (omega (arith, lt, as_long))).reads)
  where
    as_long : length (chosen_numbers values sums.selections) ≡ length run.nodes
    as_long = length-map sums.selections (chosen_number values) ∙ kept.sized.selections

-- all nodes from the first sums on
extended : EvaluationLaw → LeastChoiceLaw → (before : ℕ → Bool) (var : ℕ) (run : NodeRun) (weights : List Signal) → IsWeighed run weights
    → ((i : ℕ) → IsBelow var (signal_at weights i)) → (numbers : List ℕ) → AreNeededNumbers run numbers
    → Extends before var (node_sums run weights) (Kept run numbers 0)
extended law leasts before var run weights good low numbers needed =
    nodes_extend law leasts run weights good numbers needed (length run.nodes) var before (no_sums run weights) (omega arith)
    (kept_at_first run weights numbers var before good.as_long low)

pub complete : EvaluationLaw → LeastChoiceLaw → CompleteLaw
complete law leasts before var run weights good low numbers needed =
    let all = extended law leasts before var run weights good low numbers needed in
    record {
      values = all.values;
      same_before = all.same;
      meets = all.holds;
      reads = numbers_read run numbers _ all.values (node_sums run weights var).result needed.selection.as_long all.result;
    }

-- ---- the least choices

-- a gate's least choice, and 0 for another node
least_of : Node → ℕ
least_of Nothing = 0
least_of (Label k) = 0
least_of (Copy j) = 0
least_of (Gate kind parts operands) = get_or (choices kind parts) 0 0

least_is : LeastChoiceLaw → (node : Node)
    → ((kind : Kind) (parts : List Part) (operands : List ℕ) → node ≡ Gate kind parts operands → length parts ≡ 4) → IsLeastChoice (least_of node) node
unfolding least_of
least_is law Nothing four = record { allowed = tt; least = λ other lt a. omega (arith, lt) }
least_is law (Label k) four = record { allowed = tt; least = λ other lt a. omega (arith, lt) }
least_is law (Copy j) four = record { allowed = tt; least = λ other lt a. omega (arith, lt) }
least_is law (Gate kind parts operands) four = least_first law kind parts operands (four kind parts operands refl)

none_least : (node : Node) → IsNoGate node → least_of node ≡ 0
unfolding least_of
none_least Nothing none = refl
none_least (Label k) none = refl
none_least (Copy j) none = refl
none_least (Gate kind parts operands) none = absurd (none kind parts operands refl)

-- the least choices of all nodes are numbers as they are needed
least_numbers : LeastChoiceLaw → (run : NodeRun) (weights : List Signal) → IsWeighed run weights → AreNeededNumbers run (map least_of run.nodes)
least_numbers law run weights good = record {
  sets = sets_by run.nodes good.nodes.ordered (λ i. get_or (map least_of run.nodes) i 0) (λ i lt. (least i lt).allowed);
  selection = record {
    as_long = length-map run.nodes least_of;
    allowed = λ i lt. (least i lt).allowed;
    follows = sets_follow run.nodes good.nodes.ordered (λ i. get_or (map least_of run.nodes) i 0) (λ i lt. (least i lt).allowed);
  };
  least = record { each = λ i lt never. least i lt };
  zero = record { zero = λ i lt none. get_or-map least_of run.nodes i Nothing 0 lt ∙ none_least (get_or run.nodes i Nothing) none };
}
  where
    least : (i : ℕ) → i < length run.nodes → IsLeastChoice (get_or (map least_of run.nodes) i 0) (get_or run.nodes i Nothing)
    least i lt = subst (λ n. IsLeastChoice n (get_or run.nodes i Nothing)) (sym (get_or-map least_of run.nodes i Nothing 0 lt))
        (least_is law (get_or run.nodes i Nothing) (λ kind parts operands e. (good.gates i kind parts operands e).0))

-- ---- earlier variables

choice_below : (run : NodeRun) (numbers : List ℕ) (now : ℕ) (values : ℕ → Bool) (sums : NodeSums) → Kept run numbers 0 now values sums
    → (i : ℕ) → RowBelow now (get_or sums.selections i [])
choice_below run numbers now values sums kept i = elim (cases_lt i (length run.nodes)) [
  | inl lt ↦ (kept.reads i (omega arith) lt).below
  | inr past ↦ subst (RowBelow now) (sym (get_or_past sums.selections i [] (let e = kept.sized.selections in omega arith))) (λ j. tt)
]

pub reads_below : EvaluationLaw → LeastChoiceLaw → ReadsLaw
reads_below law leasts var run weights good low =
    let all = extended law leasts (λ v. false) var run weights good low (map least_of run.nodes) (least_numbers leasts run weights good) in
    record {
      steps = all.reads;
      totals = all.result.totals;
      choices = choice_below run (map least_of run.nodes) _ all.values (node_sums run weights var).result all.result;
    }
