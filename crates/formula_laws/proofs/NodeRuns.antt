-- The nodes that the formula of a run is about: each reads earlier ones, and a pair's is no gate.
use Rattle.std.proofs.Common.{◌≡◌, ◌≢◌, ℕ, ◌+◌, ◌*◌, ◌^◌, ◌<◌, ◌≤◌, inl, inr, Bool, true, false, not, ◌&&◌, ◌||◌, List, length, get_or, refl, sym, ap, ap₂, ◌∙◌, subst, arith}
use Rattle.std.proofs.lemmas.Bool.{cases_lt}
use Rattle.std.proofs.lemmas.List.{get_or_past}
use Rattle.std.proofs.lemmas.Nat.{mul-add-lt}
use Rattle.coco_base.specs.declared.unrolled.Node.{Node}
use Rattle.coco_base.specs.declared.unrolled.Node.TheVariants.{Nothing, Label, Copy, Gate}
use Rattle.coco_base.specs.declared.unrolled.Unrolled.{Unrolled}
use Rattle.coco_model.specs.Matters.{AreMattering}
use Rattle.coco_model.specs.Reach.{Reach}
use Rattle.coco_model.specs.UnrolledRuns.{index_of, rank_of, node_at, IsGoodNode, IsUnrolledValue}
use Rattle.coco_model.specs.WrittenFindings.{IsNoGate}
use Rattle.model_laws.proofs.UnrolledValues.{number_apart}
use Rattle.gate_graph.specs.declared.driver.Driver.{Driver}
use Rattle.gate_graph.specs.declared.driver.Driver.TheVariants as driver
use Rattle.gate_graph.proofs.StepLemmas.{no_cell_by}
use Rattle.label_cone.specs.Coned.{Coned, mark_at}
use Rattle.label_cone.specs.NodeCones.{ReadsEarlier, AreOrdered}
use Rattle.node_clauses.specs.Sums.{IsNodeRun}
use Rattle.node_laws.specs.Readings.{AreWhole}
use Rattle.probe_clauses.specs.RunViews.{RunView}
use Rattle.probe_clauses.specs.Probings.{Probing, probing_of, can_probe, is_pair, drives_leaf}
use Rattle.probe_encode.specs.Formulas.{nodes_of}
use Rattle.probe_encode.specs.Labels.{node_of, has_label}
use Rattle.probe_encode.specs.Sources.{IsSource, encoding_of}
use Rattle.probe_encode.proofs.Marked.{ascending_filter}
use Rattle.coco_model.specs.Labels.{label_count}
use Rattle.formula_laws.specs.Runs.{IsFormulaRun}

reads_earlier : (u : Unrolled) (i : ℕ) (node : Node) → IsGoodNode u i node → ReadsEarlier i node
reads_earlier u i Nothing g = tt
reads_earlier u i (Label l) g = tt
reads_earlier u i (Copy j) g = g.0
reads_earlier u i (Gate kind parts operands) g = g.earlier

pub nodes_ordered : (u : Unrolled) → IsUnrolledValue u → AreOrdered u.nodes
nodes_ordered u is i lt = reads_earlier u i (node_at u i) (is.nodes i lt)

pub nodes_whole : (u : Unrolled) → IsUnrolledValue u → AreWhole u.nodes
nodes_whole u is i kind parts operands e = elim (cases_lt i (length u.nodes)) [
  | inl lt ↦ (let g = subst (IsGoodNode u i) e (is.nodes i lt) in (g.parts_long, g.operands_long))
  | inr ge ↦ absurd (let f : ◌≡◌ {A = Node} Nothing (Gate kind parts operands) = sym (get_or_past u.nodes i Nothing ge) ∙ e in cc)
]

few_enough : (p k : ℕ) → p * (k + 1) ≤ 16000000 → p < 2 ^ 32
few_enough p k h = let e : p * (k + 1) ≡ p * k + p = omega arith in omega (arith, h, e)

module _ (view : RunView) (u : Unrolled) (coned : Coned) (source : IsSource view u coned) where
  pub few_nodes : length u.nodes < 2 ^ 32
  few_nodes = subst (λ n. n < 2 ^ 32) (sym source.unrolled_value.as_long) (few_enough (u.bits * u.cycles) view.order source.small)

  -- the nodes and the labels of a run's formula
  pub node_run : IsNodeRun (nodes_of (encoding_of view u coned))
  node_run = record {
    few = subst (λ (ns : List Node). length ns < 2 ^ 32) (sym source.nodes) few_nodes;
    ordered = subst AreOrdered (sym source.nodes) (nodes_ordered u source.unrolled_value);
    marks = source.coned_run.marks_long ∙ ap length (sym source.nodes);
    labels = ascending_filter (has_label view coned.cones) (label_count u.table u.cycles);
  }

  pub run_whole : AreWhole view.nodes
  run_whole = subst AreWhole (sym source.nodes) (nodes_whole u source.unrolled_value)

  pub run_matters : AreMattering view.nodes (mark_at coned.matters)
  run_matters = subst (λ (ns : List Node). AreMattering ns (mark_at coned.matters)) (sym source.nodes) source.coned_run.matters

  -- the number of the node of a bit in a cycle
  pub same_number : (t b : ℕ) → node_of view t b ≡ index_of u t b
  same_number t b = ap₂ (λ n (rs : List ℕ). t * n + get_or rs b 0) (sym source.bits) source.ranks

  -- it is the number of a node
  pub number_within : (t b : ℕ) → t < u.cycles → b < u.bits → index_of u t b < length u.nodes
  number_within t b lt low =
      subst (λ n. index_of u t b < n) (sym source.unrolled_value.as_long)
      (mul-add-lt t u.bits (rank_of u.ranks b) u.cycles lt (source.unrolled_value.ranks_below b low))

  -- and of no other bit or cycle
  pub numbers_apart : (t b s c : ℕ) → b < u.bits → c < u.bits → index_of u t b ≡ index_of u s c → (t ≡ s) × (b ≡ c)
  numbers_apart t b s c below other e =
      let good = source.unrolled_value in
      let p = number_apart u.bits t (rank_of u.ranks b) s (rank_of u.ranks c) (good.ranks_below b below) (good.ranks_below c other) e in
      (p.0, good.ranks_apart b c below other p.1)

leaf_of_pair : (a b : Bool) → (a && b) ≡ true → a ≡ true
leaf_of_pair true b e = refl
leaf_of_pair false b e = e

pair_is_leaf : (run : Probing) (t b : ℕ) → is_pair run t b ≡ true → run.is_leaf b ≡ true
pair_is_leaf run t b e =
    leaf_of_pair (run.is_leaf b) (can_probe run b && (not (run.is_known t b) && (run.moves t b || run.moves (t + 1) b))) e

no_cell : (d : Driver) → drives_leaf d ≡ true → (i : ℕ) → d ≢ driver.Cell i
no_cell d e i f = absurd (let g : false ≡ true = subst (λ x. drives_leaf x ≡ true) f e in cc)

-- the node of a pair is no gate
pub pair_no_gate : (view : RunView) (u : Unrolled) (coned : Coned) (reach : Reach) → IsFormulaRun view u coned reach
    → (t b : ℕ) → t < u.cycles → b < u.bits → is_pair (probing_of view) t b ≡ true → IsNoGate (node_at u (index_of u t b))
pair_no_gate view u coned reach is t b lt low pair =
    let d = get_or view.gates.drivers b driver.Nothing in
    let leaf : drives_leaf d ≡ true = pair_is_leaf (probing_of view) t b pair in
    is.of_graph.leaves t b lt low
    (no_cell_by view.gates.flat is.built.one_driver b d (is.built.drivers.each b) (no_cell d leaf))
