-- Values that meet the clauses of all nodes read as choices, and the totals tell the sum.
use Rattle.std.proofs.Common.{◌≡◌, ℕ, zero, suc, ◌<◌, ◌≤◌, Bool, false, List, [], length, get_or, refl, sym, ap, ◌∙◌, subst, arith, inl, inr, Contains}
use Rattle.std.proofs.lemmas.Bool.{cases_eq}
use Rattle.std.proofs.lemmas.List.{length-map, get_or-map, length-replicate, get_or-replicate}
use Rattle.coco_base.specs.declared.unrolled.Node.{Node}
use Rattle.coco_base.specs.declared.unrolled.Node.TheVariants.{Nothing, Label, Copy, Gate}
use Rattle.coco_model.specs.Cells.{xor}
use Rattle.coco_model.specs.Findings.{Labels}
use Rattle.coco_model.specs.Goals.{variable_of}
use Rattle.coco_model.specs.Nodes.{IsAllowedChoice, node_set}
use Rattle.label_cone.specs.NodeCones.{ReadsEarlier}
use Rattle.circuit_clauses.specs.declared.signal.Signal.{Signal}
use Rattle.circuit_clauses.specs.declared.signal.Signal.TheVariants.{Constant}
use Rattle.circuit_clauses.specs.Signals.{value}
use Rattle.circuit_clauses.specs.Laws.{GatesLaw}
use Rattle.walsh_laws.specs.Unrolled.{LeastChoiceLaw}
use Rattle.node_clauses.specs.Selectors.{no_places}
use Rattle.node_clauses.specs.Sums.{NodeRun, NodeSums, AreSized, add_this, add_node, add_nodes, no_sums, node_sums}
use Rattle.node_clauses.specs.Chosen.{chosen_number, chosen_numbers}
use Rattle.node_laws.specs.Laws.{IsWeighed, AreNeededNumbers, TellsSums, ReadsAsNumbers, SoundLaw}
use Rattle.node_laws.proofs.Meant.{Means, means-done, means-bind, means_more, value_at}
use Rattle.node_laws.proofs.Parities.{sum_to, weighed-is, xor_false}
use Rattle.node_laws.proofs.Handing.{Stands, IsNeededChoice, number_at, potential, Hands, placed, nothing_means, label_means, copy_means}
use Rattle.node_laws.proofs.Gates.{gate_means}
use Rattle.node_laws.proofs.Sets.{sets_by, sets_follow}

-- ---- one node

node_means : GatesLaw → LeastChoiceLaw → (values : ℕ → Bool) (run : NodeRun) (weights : List Signal) → IsWeighed run weights → (n : ℕ) (sums : NodeSums)
    → n < length run.nodes → Stands values run (suc n) sums
    → Means values (add_node run n sums) (Hands values run n (get_or run.nodes n Nothing) sums)
node_means gates law values run weights good n sums within stands = go (get_or run.nodes n Nothing) refl (good.nodes.ordered n within)
  where
    go : (node : Node) → get_or run.nodes n Nothing ≡ node → ReadsEarlier n node → Means values (add_this run n node sums) (Hands values run n node sums)
    go Nothing e reads = nothing_means values run n sums stands
    go (Label k) e reads = label_means gates values run n k sums stands
    go (Copy j) e reads = copy_means gates values run n j sums stands within reads e good.matters
    go (Gate kind parts operands) e reads = gate_means gates law values run n kind parts operands sums (record {
      is = e;
      within = within;
      earlier = reads;
      tell = good.matters;
      parts_long = (good.gates n kind parts operands e).0;
      operands_long = (good.gates n kind parts operands e).1;
    }) stands

-- ---- all nodes

abbrev Follows : (ℕ → Bool) → NodeRun → NodeSums → (ℕ → Labels) → ℕ → ℕ → Type 0
Follows values run sums sets l n =
    (i : ℕ) → i < n → sets i l ≡ node_set sets (number_at values sums i) (get_or run.nodes i Nothing) l

-- the first n nodes have handed on all: each has its choice, and the totals have the potential
record HandsAll (values : ℕ → Bool) (run : NodeRun) (n : ℕ) (sums last : NodeSums) : Type 0 where
  pub sized : AreSized run last
  pub later : (i : ℕ) → n ≤ i → get_or last.selections i [] ≡ get_or sums.selections i []
  pub needed : (i : ℕ) → i < n → IsNeededChoice run i (get_or run.nodes i Nothing) (number_at values last i)
  pub total : (sets : ℕ → Labels) (l : ℕ) → Contains run.labels l → Follows values run last sets l n
      → value_at values last.totals (variable_of run.labels l) ≡ potential values run sums sets l n

one_more : (values : ℕ → Bool) (run : NodeRun) (n : ℕ) (sums next last : NodeSums) → Hands values run n (get_or run.nodes n Nothing) sums next
    → HandsAll values run n next last → HandsAll values run (suc n) sums last
one_more values run n sums next last first rest = record {
  sized = rest.sized;
  later = λ i le. rest.later i (omega arith) ∙ first.others i (λ e. omega (arith, le, e));
  needed = λ i lt. elim (cases_eq i n) [
    | inl same ↦ subst (λ k. IsNeededChoice run k (get_or run.nodes k Nothing) (number_at values last k)) (sym same)
        (subst (IsNeededChoice run n (get_or run.nodes n Nothing)) (sym here) first.needed)
    | inr other ↦ rest.needed i (omega (arith, lt, other))
  ];
  total = λ sets l c follows. rest.total sets l c (λ i lt. follows i (omega arith))
      ∙ first.keeps sets l c (follows n (omega arith) ∙ ap (λ k. node_set sets k (get_or run.nodes n Nothing) l) here);
}
  where
    here : number_at values last n ≡ number_at values next n
    here = ap (chosen_number values) (rest.later n (omega arith))

none_left : (values : ℕ → Bool) (run : NodeRun) (sums : NodeSums) → Stands values run 0 sums → HandsAll values run 0 sums sums
none_left values run sums stands = record {
  sized = stands.sized;
  later = λ i le. refl;
  needed = λ i lt. absurd (omega arith);
  total = λ sets l c follows. sym (xor_false (value_at values sums.totals (variable_of run.labels l)));
}

nodes_mean : GatesLaw → LeastChoiceLaw → (values : ℕ → Bool) (run : NodeRun) (weights : List Signal) → IsWeighed run weights → (n : ℕ) (sums : NodeSums)
    → n ≤ length run.nodes → Stands values run n sums → Means values (add_nodes run n sums) (HandsAll values run n sums)
nodes_mean gates law values run weights good zero sums within stands =
    means-done values (HandsAll values run 0 sums) sums (none_left values run sums stands)
nodes_mean gates law values run weights good (suc n) sums within stands =
    means-bind values (HandsAll values run (suc n) sums) (Hands values run n (get_or run.nodes n Nothing) sums) (add_node run n sums) (add_nodes run n)
    (node_means gates law values run weights good n sums (omega arith) stands)
    (λ (next : NodeSums) hands. means_more values (HandsAll values run n next) (HandsAll values run (suc n) sums) (add_nodes run n next)
    (nodes_mean gates law values run weights good n next (omega arith) hands.stands)
    (λ (last : NodeSums) rest. one_more values run n sums next last hands rest))

-- ---- from the first sums to the last

at_first : (values : ℕ → Bool) (run : NodeRun) (weights : List Signal) → IsWeighed run weights → Stands values run (length run.nodes) (no_sums run weights)
at_first values run weights good = record {
  sized = record {
    weights = good.as_long;
    totals = length-replicate (length run.labels) (Constant false);
    selections = length-replicate (length run.nodes) no_places;
  };
  quiet = λ i lt kind parts operands is silent. ap (value values) (good.leaves i kind parts operands is);
  unset = λ i lt. get_or-replicate (length run.nodes) i no_places [] lt;
}

module _ (values : ℕ → Bool) (run : NodeRun) (weights : List Signal) (good : IsWeighed run weights) (last : NodeSums)
    (all : HandsAll values run (length run.nodes) (no_sums run weights) last) where
  read : (i : ℕ) → i < length run.nodes → get_or (chosen_numbers values last.selections) i 0 ≡ number_at values last i
  read i lt = get_or-map (chosen_number values) last.selections i [] 0 (let s = all.sized.selections in omega arith)

  choice : (i : ℕ) → i < length run.nodes → IsNeededChoice run i (get_or run.nodes i Nothing) (get_or (chosen_numbers values last.selections) i 0)
  choice i lt = subst (IsNeededChoice run i (get_or run.nodes i Nothing)) (sym (read i lt)) (all.needed i lt)

  allowed : (i : ℕ) → i < length run.nodes → IsAllowedChoice (get_or (chosen_numbers values last.selections) i 0) (get_or run.nodes i Nothing)
  allowed i lt = (choice i lt).allowed

  needed : AreNeededNumbers run (chosen_numbers values last.selections)
  needed = record {
    sets = sets_by run.nodes good.nodes.ordered (λ i. get_or (chosen_numbers values last.selections) i 0) allowed;
    selection = record {
      as_long = length-map last.selections (chosen_number values) ∙ all.sized.selections;
      allowed = allowed;
      follows = sets_follow run.nodes good.nodes.ordered (λ i. get_or (chosen_numbers values last.selections) i 0) allowed;
    };
    least = record { each = λ i lt never. (choice i lt).least never };
    zero = record { zero = λ i lt none. (choice i lt).zero none };
  }

  tells : TellsSums values run weights last
  tells sets selection l c =
      all.total sets l c (λ i lt. selection.follows i lt l ∙ ap (λ k. node_set sets k (get_or run.nodes i Nothing) l) (read i lt))
      ∙ ap (λ s. xor (value values s) (sum_to values weights sets l (length run.nodes)))
      (get_or-replicate (length run.labels) (variable_of run.labels l) (Constant false) (Constant false) (placed run.labels l c).within)
      ∙ sym (weighed-is values weights sets (length run.nodes) l)

  reads_as_numbers : ReadsAsNumbers values run weights last
  reads_as_numbers = record { numbers = needed; totals = tells }

pub sound : GatesLaw → LeastChoiceLaw → SoundLaw
sound gates law values var run weights good hold =
    reads_as_numbers values run weights good (node_sums run weights var).result
    (nodes_mean gates law values run weights good (length run.nodes) (no_sums run weights) (omega arith) (at_first values run weights good) var hold)
