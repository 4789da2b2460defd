-- Where a finding exists, so does a try that chooses nothing but at nodes that matter.
use Rattle.std.proofs.Common.{◌≡◌, ◌≢◌, ℕ, zero, suc, ◌^◌, ◌<◌, ◌≤◌, ◌⊎◌, inl, inr, Bool, true, false, cond, List, [], ◌∷◌, map, length, get_or, refl, sym, ◌∙◌, ap, subst, arith, pos}
use Rattle.std.specs.Prelude.{Contains}
use Rattle.std.specs.List.{range_with_len}
use Rattle.std.proofs.Math.IntN.{ℤ_discrete}
use Rattle.std.proofs.lemmas.List.{get_or_past, get_or-take, length-map}
use Rattle.std.proofs.lemmas.Bool.{false≢true, cases_Bool, cases_eq, cases_lt}
use Rattle.std.proofs.lemmas.List.FromFn.{get_or-map-range_with_len, length-map-range_with_len}
use Rattle.std.proofs.Math.Path.{fun_ext}
use Rattle.coco_base.specs.declared.cell.Kind.{Kind}
use Rattle.coco_base.specs.declared.cell.Part.{Part}
use Rattle.coco_base.specs.declared.cell.Part.TheVariants.{Zero, Vary}
use Rattle.coco_base.specs.declared.netlist.Flat.{Flat}
use Rattle.coco_base.specs.declared.setup.Setup.{Setup}
use Rattle.coco_base.specs.declared.finding.Probe.{Probe}
use Rattle.coco_base.specs.declared.unrolled.Node.{Node}
use Rattle.coco_base.specs.declared.unrolled.Node.TheVariants.{Nothing, Label, Copy, Gate}
use Rattle.coco_base.specs.declared.unrolled.Unrolled.{Unrolled}
use Rattle.coco_model.specs.Cells.{output_of, input_count, input_places, Subset, subset_of_number, signed, signed_sum}
use Rattle.coco_model.specs.Labels.{parity}
use Rattle.coco_model.specs.Secure.{IsProbe, moments}
use Rattle.coco_model.specs.Findings.{Labels, IsWhole, IsSeen}
use Rattle.coco_model.specs.Nodes.{IsGateChoice, IsAllowedChoice, node_set, IsNodeSelection}
use Rattle.coco_model.specs.WrittenFindings.{IsNoGate, set_of_nodes, HasLeakingTry}
use Rattle.coco_model.specs.UnrolledRuns.{index_of, node_at, node_row, IsGoodNode, IsUnrolledValue}
use Rattle.coco_model.specs.Matters.{Matters, AreMattering, IsLeastChoice, HasNeededTry}
use Rattle.cell_table.proofs.Sums.{length-input_places}
use Rattle.model_laws.proofs.Calms.{vary_or_not}
use Rattle.model_laws.proofs.Needed.{varying_place, matters_law}
use Rattle.model_laws.specs.NodeLaws.{MattersLaw}
use Rattle.walsh_laws.specs.NodeValues.{input_values}
use Rattle.walsh_laws.specs.Unrolled.{UnrolledRun, seen_run, HasLeastChoice, LeastChoiceLaw, NeededTryLaw}
use Rattle.walsh_laws.proofs.GateStep.{IsGateStep, gate_step, signed_total-signs}
use Rattle.walsh_laws.proofs.Correlation.{chosen_set-cong, one_not_zero}
use Rattle.walsh_laws.proofs.RunCorrelation.{map-cong}
use Rattle.walsh_laws.proofs.UnrolledFindings.{leaf_node, some_try}
use Rattle.walsh_laws.proofs.NodeNumbers.{number_of_subset, subset-number, number-below}

-- ---- least choices

-- where a number has a property that is decided, there is a least one
record HasLeast (P : ℕ → Type 0) (n : ℕ) : Type 0 where
  number : ℕ
  below : number < n
  holds : P number
  least : (k : ℕ) → k < number → P k → ⊥

least_or_none : (P : ℕ → Type 0) → ((k : ℕ) → P k ⊎ (P k → ⊥)) → (n : ℕ) → HasLeast P n ⊎ ((k : ℕ) → k < n → P k → ⊥)
least_or_none P decide zero = inr (λ k lt p. omega arith)
least_or_none P decide (suc n) = go (least_or_none P decide n) (decide n)
  where
    go : HasLeast P n ⊎ ((k : ℕ) → k < n → P k → ⊥) → P n ⊎ (P n → ⊥) → HasLeast P (suc n) ⊎ ((k : ℕ) → k < suc n → P k → ⊥)
    go (inl h) other = let b = h.below in inl (record { number = h.number; below = omega arith; holds = h.holds; least = h.least })
    go (inr none) (inl p) = inl (record { number = n; below = omega arith; holds = p; least = none })
    go (inr none) (inr never) = inr (λ k lt p. at k lt p (cases_eq k n))
      where
        at : (k : ℕ) → k < suc n → P k → (k ≡ n) ⊎ (k ≢ n) → ⊥
        at k lt p (inl e) = never (subst P e p)
        at k lt p (inr n) = none k (omega arith) p

-- the places of a subset all vary, or not
abbrev VariesAll : Subset → List Part → Type 0
VariesAll ss ps = (place : ℕ) → get_or ss place false ≡ true → get_or ps place Zero ≡ Vary

varies_or_not : (ss : Subset) (ps : List Part) → VariesAll ss ps ⊎ (VariesAll ss ps → ⊥)
varies_or_not [] ps = inl (λ place e. absurd (false≢true e))
varies_or_not (true ∷ ss) [] = inr (λ h. let e = h 0 refl in cc)
varies_or_not (false ∷ ss) [] = go (varies_or_not ss [])
  where
    go : VariesAll ss [] ⊎ (VariesAll ss [] → ⊥) → VariesAll (false ∷ ss) [] ⊎ (VariesAll (false ∷ ss) [] → ⊥)
    go (inl all) = inl at
      where
        at : VariesAll (false ∷ ss) []
        at zero e = absurd (false≢true e)
        at (suc place) e = all place e
    go (inr never) = inr (λ h. never (λ place e. h (suc place) e))
varies_or_not (s ∷ ss) (p ∷ ps) = go (cases_Bool s) (vary_or_not p) (varies_or_not ss ps)
  where
    later : VariesAll (s ∷ ss) (p ∷ ps) → VariesAll ss ps
    later h place e = h (suc place) e

    both : (s ≡ true → p ≡ Vary) → VariesAll ss ps → VariesAll (s ∷ ss) (p ∷ ps)
    both head all zero e = head e
    both head all (suc place) e = all place e

    go : (s ≡ true) ⊎ (s ≡ false) → (p ≡ Vary) ⊎ (p ≢ Vary) → VariesAll ss ps ⊎ (VariesAll ss ps → ⊥)
        → VariesAll (s ∷ ss) (p ∷ ps) ⊎ (VariesAll (s ∷ ss) (p ∷ ps) → ⊥)
    go a b (inr never) = inr (λ h. never (later h))
    go a (inl v) (inl all) = inl (both (λ e. v) all)
    go (inl t) (inr n) (inl all) = inr (λ h. n (h 0 t))
    go (inr f) (inr n) (inl all) = inl (both (λ t. absurd (false≢true (sym f ∙ t))) all)

choice_or_not : (kind : Kind) (parts : List Part) (ss : Subset) → IsGateChoice kind parts ss ⊎ (IsGateChoice kind parts ss → ⊥)
choice_or_not kind parts ss =
    go (cases_eq (length ss) (length (input_places kind parts))) (varies_or_not ss (input_places kind parts))
    (ℤ_discrete (signed_sum kind (input_places kind parts) ss) (pos 0))
  where
    go : (length ss ≡ length (input_places kind parts)) ⊎ (length ss ≢ length (input_places kind parts))
        → VariesAll ss (input_places kind parts) ⊎ (VariesAll ss (input_places kind parts) → ⊥)
        → Dec (signed_sum kind (input_places kind parts) ss ≡ pos 0)
        → IsGateChoice kind parts ss ⊎ (IsGateChoice kind parts ss → ⊥)
    go (inl long) (inl all) (no n) = inl (record { varies = record { as_long = long; varies = all }; signed = n })
    go (inl long) (inl all) (yes z) = inr (λ h. h.signed z)
    go (inl long) (inr n) other = inr (λ h. n h.varies.varies)
    go (inr n) all other = inr (λ h. n h.varies.as_long)

allowed_or_not : (node : Node) (number : ℕ) → IsAllowedChoice number node ⊎ (IsAllowedChoice number node → ⊥)
allowed_or_not Nothing number = inl tt
allowed_or_not (Label k) number = inl tt
allowed_or_not (Copy j) number = inl tt
allowed_or_not (Gate kind parts operands) number =
    go (cases_lt number (2 ^ input_count kind)) (choice_or_not kind parts (subset_of_number (input_count kind) number))
  where
    subset : Subset
    subset = subset_of_number (input_count kind) number

    go : (number < 2 ^ input_count kind) ⊎ (2 ^ input_count kind ≤ number)
        → IsGateChoice kind parts subset ⊎ (IsGateChoice kind parts subset → ⊥)
        → ((number < 2 ^ input_count kind) × IsGateChoice kind parts subset)
        ⊎ ((number < 2 ^ input_count kind) × IsGateChoice kind parts subset → ⊥)
    go (inl below) (inl choice) = inl (below, choice)
    go (inl below) (inr n) = inr (λ h. n h.1)
    go (inr past) other = inr (λ h. let b = h.0 in omega arith)

record HasChoice (node : Node) : Type 0 where
  number : ℕ
  allowed : IsAllowedChoice number node

-- the sign of a gate's output does not vanish, so some signed sum does not
some_choice : (node : Node)
    → ((kind : Kind) (parts : List Part) (operands : List ℕ) → node ≡ Gate kind parts operands → length parts ≡ 4) → HasChoice node
some_choice Nothing four = record { number = 0; allowed = tt }
some_choice (Label k) four = record { number = 0; allowed = tt }
some_choice (Copy j) four = record { number = 0; allowed = tt }
some_choice (Gate kind parts operands) four =
    go (gate_step (λ xs. signed (output_of kind xs) (pos 1)) 0 (λ c i. false) (λ c. false) places nodes as_long
    (one_not_zero (output_of kind (input_values (λ i. false) places nodes))))
  where
    places : List Part
    places = input_places kind parts

    nodes : List ℕ
    nodes = map (λ (p : Part). 0) (input_places kind parts)

    as_long : length {A = ℕ} (map (λ (p : Part). 0) (input_places kind parts)) ≡ length (input_places kind parts)
    as_long = length-map (input_places kind parts) (λ (p : Part). 0)

    go : IsGateStep (λ xs. signed (output_of kind xs) (pos 1)) 0 (λ c i. false) (λ c. false) places nodes
        → HasChoice (Gate kind parts operands)
    go s = record {
      number = number_of_subset s.subset;
      allowed = (
        subst (λ n. number_of_subset s.subset < 2 ^ n) as_many (number-below s.subset),
        subst (IsGateChoice kind parts) (sym same) (record {
          varies = s.unknown;
          signed = λ z. s.signed_sum (signed_total-signs (output_of kind) s.subset (input_places kind parts) s.unknown ∙ z);
        }),
      );
    }
      where
        as_many : length s.subset ≡ input_count kind
        as_many = s.unknown.as_long ∙ length-input_places kind parts (four kind parts operands refl)

        same : subset_of_number (input_count kind) (number_of_subset s.subset) ≡ s.subset
        same = ap (λ n. subset_of_number n (number_of_subset s.subset)) (sym as_many) ∙ subset-number s.subset

least_choice : (node : Node)
    → ((kind : Kind) (parts : List Part) (operands : List ℕ) → node ≡ Gate kind parts operands → length parts ≡ 4) → HasLeastChoice node
least_choice node four = go (some_choice node four)
  where
    go : HasChoice node → HasLeastChoice node
    go c = at (least_or_none (λ k. IsAllowedChoice k node) (allowed_or_not node) (suc c.number))
      where
        at : HasLeast (λ k. IsAllowedChoice k node) (suc c.number)
            ⊎ ((k : ℕ) → k < suc c.number → IsAllowedChoice k node → ⊥) → HasLeastChoice node
        at (inl h) = record { number = h.number; least = record { allowed = h.holds; least = h.least } }
        at (inr none) = absurd (none c.number (omega arith) c.allowed)

pub least_choice_law : LeastChoiceLaw
unfolding LeastChoiceLaw
least_choice_law = least_choice

-- ---- the sets that choices give

module _ (u : Unrolled) (good : IsUnrolledValue u) (number : ℕ → ℕ)
    (allowed : (i : ℕ) → i < length u.nodes → IsAllowedChoice (number i) (node_at u i)) where
  -- the set of a node is given by those of the nodes before it
  node_set-cong : (f g : ℕ → Labels) (i : ℕ) → i < length u.nodes → ((j : ℕ) → j < i → (l : ℕ) → f j l ≡ g j l) → (l : ℕ)
      → node_set f (number i) (node_at u i) l ≡ node_set g (number i) (node_at u i) l
  node_set-cong f g i below same l = go (node_at u i) refl
    where
      go : (node : Node) → node_at u i ≡ node → node_set f (number i) node l ≡ node_set g (number i) node l
      go Nothing e = refl
      go (Label k) e = refl
      go (Copy j) e = same j (subst (IsGoodNode u i) e (good.nodes i below)).0 l
      go (Gate kind parts operands) e =
          chosen_set-cong f g (subset_of_number (input_count kind) (number i)) (input_places kind operands) l at
        where
          at : (place : ℕ) → place < length (input_places kind operands)
              → get_or (subset_of_number (input_count kind) (number i)) place false ≡ true
              → f (get_or (input_places kind operands) place 0) l ≡ g (get_or (input_places kind operands) place 0) l
          at place h chosen =
              let varies = (subst (IsAllowedChoice (number i)) e (allowed i below)).1.varies.varies place chosen in
              let inside = varying_place kind parts place varies in
              let operand = get_or-take (input_count kind) operands place 0 inside in
              subst (λ o. f o l ≡ g o l) (sym operand)
              (same (get_or operands place 0) ((subst (IsGoodNode u i) e (good.nodes i below)).earlier place
              (sym (get_or-take (input_count kind) parts place Zero inside) ∙ varies)) l)

  -- the set of a node, as deep as a number of nodes
  follow : ℕ → ℕ → Labels
  follow zero i l = false
  follow (suc n) i l = node_set (follow n) (number i) (node_at u i) l

  stable : (n m i : ℕ) → i < n → i < m → i < length u.nodes → (l : ℕ) → follow n i l ≡ follow m i l
  unfolding follow
  stable zero m i lt other below l = absurd (omega arith)
  stable (suc n) zero i lt other below l = absurd (omega arith)
  stable (suc n) (suc m) i lt other below l =
      node_set-cong (follow n) (follow m) i below (λ j h k. stable n m j (omega arith) (omega arith) (omega arith) k) l

  pub sets_of : ℕ → Labels
  sets_of i l = follow (suc i) i l

  pub sets-follow : (i : ℕ) → i < length u.nodes → (l : ℕ) → sets_of i l ≡ node_set sets_of (number i) (node_at u i) l
  unfolding follow sets_of
  sets-follow i below l =
      node_set-cong (follow i) (λ j. follow (suc j) j) i below (λ j h k. stable i (suc j) j h (omega arith) (omega arith) k) l

-- ---- a try that chooses nothing else

module _ (flat : Flat) (setup : Setup) (cycles : ℕ) (run : UnrolledRun flat setup cycles) (window d : ℕ) (matters : ℕ → Bool)
    (tell : AreMattering run.unrolled.nodes matters) (w : HasLeakingTry (seen_run flat setup cycles run window) d) where
  count : ℕ
  count = length run.unrolled.nodes

  four : (i : ℕ) (kind : Kind) (parts : List Part) (operands : List ℕ) → node_at run.unrolled i ≡ Gate kind parts operands
      → length parts ≡ 4
  four i kind parts operands e = go (cases_lt i (length run.unrolled.nodes))
    where
      go : (i < length run.unrolled.nodes) ⊎ (length run.unrolled.nodes ≤ i) → length parts ≡ 4
      go (inl below) = (subst (IsGoodNode run.unrolled i) e (run.is.good.nodes i below)).parts_long
      go (inr past) =
          absurd (let f : ◌≡◌ {A = Node} Nothing (Gate kind parts operands) = sym (get_or_past run.unrolled.nodes i Nothing past) ∙ e in cc)

  least_of : (i : ℕ) → HasLeastChoice (node_at run.unrolled i)
  least_of i = least_choice (node_at run.unrolled i) (four i)

  -- the old number where the node matters, and else the least
  number : ℕ → ℕ
  number i = cond (matters i) (get_or w.numbers i 0) (least_of i).number

  at_mattering : (i : ℕ) → i < length run.unrolled.nodes → Matters (node_at run.unrolled) i → number i ≡ get_or w.numbers i 0
  unfolding number
  at_mattering i below m = ap (λ b. cond b (get_or w.numbers i 0) (least_of i).number) ((tell.each i below).1 m)

  at_other : (i : ℕ) → matters i ≡ false → number i ≡ (least_of i).number
  unfolding number
  at_other i e = ap (λ b. cond b (get_or w.numbers i 0) (least_of i).number) e

  allowed : (i : ℕ) → i < length run.unrolled.nodes → IsAllowedChoice (number i) (node_at run.unrolled i)
  allowed i below = go (cases_Bool (matters i))
    where
      go : (matters i ≡ true) ⊎ (matters i ≡ false) → IsAllowedChoice (number i) (node_at run.unrolled i)
      go (inl e) = subst (λ n. IsAllowedChoice n (node_at run.unrolled i)) (sym (at_mattering i below ((tell.each i below).0 e)))
          (w.is_try.candidate.selection.allowed i below)
      go (inr e) = subst (λ n. IsAllowedChoice n (node_at run.unrolled i)) (sym (at_other i e)) (least_of i).least.allowed

  numbers : List ℕ
  numbers = map number (range_with_len 0 (length run.unrolled.nodes))

  number_at : (i : ℕ) → i < length run.unrolled.nodes → get_or numbers i 0 ≡ number i
  unfolding numbers
  number_at i below = get_or-map-range_with_len number 0 (length run.unrolled.nodes) i i 0 below (omega arith)

  sets : ℕ → Labels
  sets = sets_of run.unrolled run.is.good number allowed

  selection : IsNodeSelection run.unrolled.nodes numbers sets
  unfolding numbers sets
  selection = record {
    as_long = length-map-range_with_len number 0 (length run.unrolled.nodes);
    allowed = λ i below. subst (λ n. IsAllowedChoice n (node_at run.unrolled i)) (sym (number_at i below)) (allowed i below);
    follows = λ i below l.
        sets-follow run.unrolled run.is.good number allowed i below l
        ∙ ap (λ n. node_set (sets_of run.unrolled run.is.good number allowed) n (node_at run.unrolled i) l) (sym (number_at i below));
  }

  same_sets : (i l : ℕ) → i < length run.unrolled.nodes → IsNoGate (node_at run.unrolled i) → w.sets i l ≡ sets i l
  unfolding MattersLaw
  same_sets i l below none = matters_law run.unrolled run.is.good w.numbers numbers w.sets sets w.is_try.candidate.selection selection
      (λ j inside m. sym (number_at j inside ∙ at_mattering j inside m)) i l below (inr none)

  zero_at : (i : ℕ) → i < length run.unrolled.nodes → IsNoGate (node_at run.unrolled i) → get_or numbers i 0 ≡ 0
  zero_at i below none = number_at i below ∙ go (cases_Bool (matters i))
    where
      any : (node : Node) → IsNoGate node → IsAllowedChoice 0 node
      any Nothing n = tt
      any (Label k) n = tt
      any (Copy j) n = tt
      any (Gate kind parts operands) n = absurd (n kind parts operands refl)

      go : (matters i ≡ true) ⊎ (matters i ≡ false) → number i ≡ 0
      go (inl e) = at_mattering i below ((tell.each i below).0 e) ∙ w.is_try.elsewhere.zero i below none
      go (inr e) = at_other i e ∙ least_zero (cases_eq (least_of i).number 0)
        where
          least_zero : ((least_of i).number ≡ 0) ⊎ ((least_of i).number ≢ 0) → (least_of i).number ≡ 0
          least_zero (inl z) = z
          least_zero (inr n) = absurd ((least_of i).least.least 0 (omega arith) (any (node_at run.unrolled i) none))

  least_at : (i : ℕ) → i < length run.unrolled.nodes → (Matters (node_at run.unrolled) i → ⊥)
      → IsLeastChoice (get_or numbers i 0) (node_at run.unrolled i)
  least_at i below never = subst (λ n. IsLeastChoice n (node_at run.unrolled i)) (sym (number_at i below ∙ go (cases_Bool (matters i)))) (least_of i).least
    where
      go : (matters i ≡ true) ⊎ (matters i ≡ false) → number i ≡ (least_of i).number
      go (inl e) = absurd (never ((tell.each i below).0 e))
      go (inr e) = at_other i e

  -- the node of a pair is no gate
  pair_node : (q : Probe) → Contains w.pairs q
      → (index_of run.unrolled q.cycle q.bit < length run.unrolled.nodes) × IsNoGate (node_at run.unrolled (index_of run.unrolled q.cycle q.bit))
  pair_node q h = leaf_node flat setup cycles run window w.probes each q
      (subst (λ n. IsSeen (node_row run.unrolled) run.reach (moments n window w.probes) q) run.is.is_cycles (w.is_try.candidate.seen q h))
    where
      each : (p : Probe) → Contains w.probes p → IsProbe flat.bits setup.clock cycles p
      each p i = subst (λ n. IsProbe n setup.clock cycles p) run.is.bits
          (subst (λ n. IsProbe run.unrolled.bits setup.clock n p) run.is.is_cycles (w.is_try.candidate.each p i))

  same_set : (l : ℕ) → set_of_nodes (index_of run.unrolled) w.sets w.pairs l ≡ set_of_nodes (index_of run.unrolled) sets w.pairs l
  same_set l = ap parity (map-cong (λ (q : Probe). w.sets (index_of run.unrolled q.cycle q.bit) l)
      (λ (q : Probe). sets (index_of run.unrolled q.cycle q.bit) l) w.pairs
      (λ q h. let n = pair_node q h in same_sets (index_of run.unrolled q.cycle q.bit) l n.0 n.1))

  pub needed : HasNeededTry (seen_run flat setup cycles run window) d
  needed = record {
    probes = w.probes;
    pairs = w.pairs;
    numbers = numbers;
    sets = sets;
    is_try = record {
      is_try = record {
        candidate = record {
          some = w.is_try.candidate.some;
          most = w.is_try.candidate.most;
          each = w.is_try.candidate.each;
          ascending = w.is_try.candidate.ascending;
          in_order = w.is_try.candidate.in_order;
          seen = w.is_try.candidate.seen;
          selection = selection;
        };
        elsewhere = record { zero = zero_at };
      };
      elsewhere = record { each = least_at };
    };
    leaks = record {
      member = w.leaks.member;
      not_empty = sym (same_set w.leaks.member) ∙ w.leaks.not_empty;
      whole = subst (IsWhole run.unrolled.table) (fun_ext same_set) w.leaks.whole;
    };
  }

pub needed_try_law : NeededTryLaw
unfolding NeededTryLaw
needed_try_law flat setup cycles run window d matters tell h =
    needed flat setup cycles run window d matters tell (some_try flat setup cycles run window d h)
