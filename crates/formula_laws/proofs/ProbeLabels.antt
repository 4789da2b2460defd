-- The labels with variables are those in the cones of all probes.
use Rattle.std.proofs.Common.{◌≡◌, ℕ, suc, ◌+◌, ◌<◌, ◌≤◌, ◌⊎◌, inl, inr, Bool, true, false, cond, List, [], ◌∷◌, length, filter, get_or, refl, sym, ◌∙◌, ap, subst, arith}
use Rattle.std.specs.Prelude.{Contains}
use Rattle.std.specs.List.{range_with_len}
use Rattle.std.proofs.lemmas.Bool.{cases_lt, and_from, and_parts, or_cases}
use Rattle.std.proofs.lemmas.List.{get_or_past}
use Rattle.std.proofs.lemmas.List.FromFn.{get_or-range_with_len, length-range_with_len}
use Rattle.coco_base.specs.declared.finding.Probe.{Probe}
use Rattle.coco_base.specs.declared.unrolled.Node.{Node}
use Rattle.coco_base.specs.declared.unrolled.Node.TheVariants.{Nothing, Label}
use Rattle.coco_base.specs.declared.unrolled.Unrolled.{Unrolled}
use Rattle.coco_base.specs.declared.cell.Part.TheVariants.{Vary}
use Rattle.coco_model.specs.Cones.{IsInCone}
use Rattle.coco_model.specs.Cones.IsInCone.{here, copied, through}
use Rattle.coco_model.specs.Goals.{IsProbedLabel, is_among}
use Rattle.coco_model.specs.Labels.{label_count}
use Rattle.coco_model.specs.Reach.{Reach}
use Rattle.coco_model.specs.Reach.Reaches.{here as ends}
use Rattle.coco_model.specs.UnrolledRuns.{IsGoodNode, IsUnrolledValue, index_of, node_at, node_part}
use Rattle.coco_model.proofs.Basics.{Contains-here, Contains-later, Contains-cases, Contains-none}
use Rattle.model_laws.proofs.Windows.{lasts_at, moment_of}
use Rattle.calm_reach.specs.CalmRows.{calm_of}
use Rattle.calm_reach.proofs.WalkLemmas.{member_of_any}
use Rattle.label_cone.specs.Coned.{Coned}
use Rattle.label_cone.specs.NodeCones.{cone_at}
use Rattle.probe_clauses.specs.RunViews.{RunView}
use Rattle.probe_clauses.specs.Probings.{probing_of, is_pair, row_at, varies}
use Rattle.probe_laws.proofs.Choosing.{found, find}
use Rattle.probe_encode.specs.Labels.{node_of, has_label_at, has_label_in, has_label}
use Rattle.probe_encode.proofs.Marked.{ascending_filter}
use Rattle.stable_sets.proofs.FindingLemmas.{index_below}
use Rattle.stable_sets.proofs.ShareLemmas.{has_of_member}
use Rattle.formula_laws.specs.Labelled.{LabelsLaw}
use Rattle.formula_laws.specs.Runs.{IsFormulaRun, seen_in}
use Rattle.formula_laws.proofs.ProbePairs.{no_clock_of}
use Rattle.formula_laws.proofs.ProbeWalks.{vary_of}
use Rattle.formula_laws.proofs.ProbeShown.{IsTestedPair, bit_in_run, in_reach, leaf_in_reach, moves_in_run, number_same, pair_is, pair_of}

-- ---- numbers that pass a test

filtered : (p : ℕ → Bool) (xs : List ℕ) (x : ℕ) → Contains xs x → p x ≡ true → Contains (filter p xs) x
filtered p [] x h e = absurd (Contains-none x h)
filtered p (y ∷ ys) x h e = go (p y) refl (Contains-cases y x ys h) (λ i. filtered p ys x i e)
  where
    go : (v : Bool) → p y ≡ v → (y ≡ x) ⊎ Contains ys x → (Contains ys x → Contains (filter p ys) x)
        → Contains (cond v (y ∷ filter p ys) (filter p ys)) x
    go true f (inl same) rest = subst (Contains (y ∷ filter p ys)) same (Contains-here y (filter p ys))
    go true f (inr i) rest = Contains-later y x (filter p ys) (rest i)
    go false f (inl same) rest = absurd (let w : false ≡ true = sym f ∙ (ap p same ∙ e) in cc)
    go false f (inr i) rest = rest i

of_filtered : (p : ℕ → Bool) (xs : List ℕ) (x : ℕ) → Contains (filter p xs) x → Contains xs x × (p x ≡ true)
of_filtered p [] x h = absurd (Contains-none x h)
of_filtered p (y ∷ ys) x h = go (p y) refl h (λ i. of_filtered p ys x i)
  where
    go : (v : Bool) → p y ≡ v → Contains (cond v (y ∷ filter p ys) (filter p ys)) x
        → (Contains (filter p ys) x → Contains ys x × (p x ≡ true)) → Contains (y ∷ ys) x × (p x ≡ true)
    go true f i rest = first (Contains-cases y x (filter p ys) i)
      where
        first : (y ≡ x) ⊎ Contains (filter p ys) x → Contains (y ∷ ys) x × (p x ≡ true)
        first (inl same) = (subst (Contains (y ∷ ys)) same (Contains-here y ys), ap p (sym same) ∙ f)
        first (inr j) = let r = rest j in (Contains-later y x ys r.0, r.1)
    go false f i rest = let r = rest i in (Contains-later y x ys r.0, r.1)

in_range : (n x : ℕ) → x < n → Contains (range_with_len 0 n) x
in_range n x lt = (
  x,
  (let long = length-range_with_len 0 n in omega (arith, lt, long)),
  get_or-range_with_len 0 n x x lt ∙ omega arith,
)

-- ---- labels in cones

-- a node with a label in its cone is something
cone_unknown : (nodes : ℕ → Node) (l i : ℕ) → IsInCone nodes l i → node_part (nodes i) ≡ Vary
cone_unknown nodes l i (here i' e) = ap node_part e
cone_unknown nodes l i (copied i' j e rest) = ap node_part e
cone_unknown nodes l i (through i' kind parts operands place e live rest) = ap node_part e

-- such a label is one of the run
cone_label : (u : Unrolled) (l i : ℕ) → IsUnrolledValue u → IsInCone (node_at u) l i → l < label_count u.table u.cycles
cone_label u l i value (here i' e) = subst (IsGoodNode u i) e (value.nodes i (inside (cases_lt i (length u.nodes))))
  where
    inside : (i < length u.nodes) ⊎ (length u.nodes ≤ i) → i < length u.nodes
    inside (inl lt) = lt
    inside (inr ge) = absurd (let w : Nothing ≡ Label l = sym (get_or_past u.nodes i Nothing ge) ∙ e in cc)
cone_label u l i value (copied i' j e rest) = cone_label u l j value rest
cone_label u l i value (through i' kind parts operands place e live rest) = cone_label u l (get_or operands place 0) value rest

module _ (view : RunView) (u : Unrolled) (coned : Coned) (reach : Reach) (run : IsFormulaRun view u coned reach) where
  -- the number of the node of a bit in a cycle is in range
  node_inside : (t b : ℕ) → t < length view.rows → b < view.gates.flat.bits → node_of view t b < length u.nodes
  node_inside t b lt inside =
      subst (λ i. i < length u.nodes) (sym (number_same view u coned reach run t b))
      (index_below u (record { bit = b; cycle = t }) run.source.unrolled_value (record {
        bit = subst (λ n. b < n) (sym run.source.bits) inside;
        cycle = subst (λ n. t < n) (sym run.source.cycles) lt;
      }))

  cone_member : (t b l : ℕ) → t < length view.rows → b < view.gates.flat.bits → Contains (cone_at coned.cones (node_of view t b)) l
      → IsInCone (node_at u) l (index_of u t b)
  cone_member t b l lt inside h =
      subst (IsInCone (node_at u) l) (number_same view u coned reach run t b)
      ((run.source.coned_run.cones.members (node_of view t b) (node_inside t b lt inside) l).0 h)

  in_cone : (t b l : ℕ) → t < length view.rows → b < view.gates.flat.bits → IsInCone (node_at u) l (index_of u t b)
      → Contains (cone_at coned.cones (node_of view t b)) l
  in_cone t b l lt inside h =
      (run.source.coned_run.cones.members (node_of view t b) (node_inside t b lt inside) l).1
      (subst (IsInCone (node_at u) l) (sym (number_same view u coned reach run t b)) h)

  -- ---- the labels of pairs

  -- a leaf that is not calm in a cycle is shown by itself as a probe in this cycle
  shown_by_itself : (t b l m : ℕ) → (t ≡ m) ⊎ (suc t ≡ m) → IsTestedPair view u t b → varies (calm_of (row_at view.rows m) b) ≡ true
      → IsInCone (node_at u) l (index_of u t b) → IsProbedLabel (seen_in view u reach) l
  shown_by_itself t b l m when pair moves member =
      let lt = moves_in_run view u coned reach run m b moves in
      let varying = vary_of (calm_of (row_at view.rows m) b) moves in
      let inside = bit_in_run view u coned reach run m b lt varying in
      let probe : Probe = record { bit = b; cycle = m } in
      let below = subst (λ n. m < n) (sym run.source.cycles) lt in
      record {
        probe = probe;
        is_probe = record {
          bit = subst (λ n. b < n) (sym run.source.bits) inside;
          no_clock = no_clock_of view.clock b pair.can;
          cycle = below;
        };
        moment = probe;
        lasts = lasts_at u.cycles view.window probe m (omega arith) (let w = run.lasting in omega (arith, w)) below;
        leaf = b;
        cycle = t;
        shows = record { reached = in_reach view u coned reach run m b b lt inside (ends pair.no_cell varying); when = when };
        member = member;
      }

  probed_label : (t b l : ℕ) → t < length view.rows → b < view.gates.flat.bits → has_label_at view coned.cones l t b ≡ true
      → IsProbedLabel (seen_in view u reach) l
  probed_label t b l lt inside e =
      let parts = and_parts (is_pair (probing_of view) t b) (is_among (cone_at coned.cones (node_of view t b)) l) e in
      let pair = pair_of view u coned reach run t b parts.0 in
      let member = cone_member t b l lt inside (member_of_any l (cone_at coned.cones (node_of view t b)) parts.1) in
      go pair member (or_cases (varies (calm_of (row_at view.rows t) b)) (varies (calm_of (row_at view.rows (t + 1)) b)) pair.moves)
    where
      go : IsTestedPair view u t b → IsInCone (node_at u) l (index_of u t b)
          → (varies (calm_of (row_at view.rows t) b) ≡ true) ⊎ (varies (calm_of (row_at view.rows (t + 1)) b) ≡ true)
          → IsProbedLabel (seen_in view u reach) l
      go pair member (inl moves) = shown_by_itself t b l t (inl refl) pair moves member
      go pair member (inr moves) = shown_by_itself t b l (t + 1) (inr (omega arith)) pair moves member

  probed : (l : ℕ) → has_label view coned.cones l ≡ true → IsProbedLabel (seen_in view u reach) l
  probed l e =
      let cycle = found (has_label_in view coned.cones l) (length view.rows) e in
      let bit = found (has_label_at view coned.cones l cycle.at) view.gates.flat.bits cycle.holds in
      probed_label cycle.at bit.at l cycle.within bit.within bit.holds

  has : (l : ℕ) → IsProbedLabel (seen_in view u reach) l → has_label view coned.cones l ≡ true
  has l s =
      let m = moment_of u.cycles view.window s.probe s.moment s.lasts in
      let lt = subst (λ n. s.moment.cycle < n) run.source.cycles m.below in
      let inside = subst (λ n. s.moment.bit < n) run.source.bits (subst (λ c. c < u.bits) m.bit s.is_probe.bit) in
      let leaf = leaf_in_reach view u coned reach run s.moment.cycle s.moment.bit s.leaf lt inside s.shows.reached in
      let low = bit_in_run view u coned reach run s.moment.cycle s.leaf lt leaf.varies in
      let pair = pair_is view u coned reach run s.cycle s.leaf (record {
        moment = s.moment.cycle;
        when = back s.shows.when;
        in_run = lt;
        leaf = leaf;
        unknown = cone_unknown (node_at u) l (index_of u s.cycle s.leaf) s.member;
      }) in
      let early = earlier s.shows.when lt in
      find (has_label_in view coned.cones l) (length view.rows) s.cycle early
      (find (has_label_at view coned.cones l s.cycle) view.gates.flat.bits s.leaf low
      (and_from (is_pair (probing_of view) s.cycle s.leaf) (is_among (cone_at coned.cones (node_of view s.cycle s.leaf)) l) pair
      (has_of_member l (cone_at coned.cones (node_of view s.cycle s.leaf)) (in_cone s.cycle s.leaf l early low s.member))))
    where
      back : (s.cycle ≡ s.moment.cycle) ⊎ (suc s.cycle ≡ s.moment.cycle) → (s.moment.cycle ≡ s.cycle) ⊎ (s.moment.cycle ≡ suc s.cycle)
      back (inl e) = inl (sym e)
      back (inr e) = inr (sym e)

      earlier : (s.cycle ≡ s.moment.cycle) ⊎ (suc s.cycle ≡ s.moment.cycle) → s.moment.cycle < length view.rows → s.cycle < length view.rows
      earlier (inl e) lt = omega (arith, e, lt)
      earlier (inr e) lt = omega (arith, e, lt)

pub labels_law : LabelsLaw
unfolding LabelsLaw
labels_law view u coned reach run = record {
  ascending = ascending_filter (has_label view coned.cones) (label_count u.table u.cycles);
  members = λ l. (
    (λ h. probed view u coned reach run l (of_filtered (has_label view coned.cones) (range_with_len 0 (label_count u.table u.cycles)) l h).1),
    (λ s. filtered (has_label view coned.cones) (range_with_len 0 (label_count u.table u.cycles)) l
        (in_range (label_count u.table u.cycles) l (cone_label u l (index_of u s.cycle s.leaf) run.source.unrolled_value s.member))
        (has view u coned reach run l s)),
  );
}
