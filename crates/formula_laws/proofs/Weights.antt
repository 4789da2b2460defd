-- The nodes of chosen pairs are weighed, and their sum is the set of the pairs.
use Rattle.std.proofs.Common.{◌≡◌, ℕ, ◌<◌, ◌≤◌, ◌⊎◌, inl, inr, Bool, true, false, ◌&&◌, List, [], ◌∷◌, map, filter, flat_map, length, get_or, slice_set, replicate, refl, sym, ap, ap₂, ◌∙◌, subst, arith}
use Rattle.std.specs.Prelude.{Contains}
use Rattle.std.proofs.lemmas.Bool.{cases_lt, cases_Bool}
use Rattle.std.proofs.lemmas.List.{length-replicate}
use Rattle.coco_base.specs.declared.cell.Kind.{Kind}
use Rattle.coco_base.specs.declared.cell.Part.{Part}
use Rattle.coco_base.specs.declared.finding.Probe.{Probe}
use Rattle.coco_base.specs.declared.unrolled.Node.{Node}
use Rattle.coco_base.specs.declared.unrolled.Node.TheVariants.{Nothing, Gate}
use Rattle.coco_base.specs.declared.unrolled.Unrolled.{Unrolled}
use Rattle.coco_model.specs.Cells.{xor}
use Rattle.coco_model.specs.Findings.{Labels}
use Rattle.coco_model.specs.Labels.{parity}
use Rattle.coco_model.specs.Reach.{Reach}
use Rattle.coco_model.specs.UnrolledRuns.{index_of}
use Rattle.coco_model.specs.WrittenFindings.{set_of_nodes}
use Rattle.circuit_clauses.specs.declared.signal.Signal.{Signal}
use Rattle.circuit_clauses.specs.declared.signal.Signal.TheVariants.{Constant}
use Rattle.circuit_clauses.specs.Signals.{value}
use Rattle.circuit_clauses.specs.Meanings.{IsBelow}
use Rattle.circuit_clauses.specs.Steps.{variables_after}
use Rattle.clause_builds.specs.Rows.{signal_at}
use Rattle.label_cone.specs.Coned.{Coned}
use Rattle.node_laws.specs.Readings.{AreOfLeaves, weighed_sum}
use Rattle.node_laws.specs.Laws.{IsWeighed}
use Rattle.node_laws.proofs.Parities.{sum_to, weighed-is}
use Rattle.probe_clauses.specs.RunViews.{RunView}
use Rattle.probe_clauses.specs.Probings.{probing_of, all_bits, all_cycles, is_pair}
use Rattle.probe_clauses.specs.Parts.{probe_part}
use Rattle.probe_clauses.specs.Rows.{at}
use Rattle.probe_laws.specs.Showing.{chosen}
use Rattle.probe_encode.specs.Formulas.{nodes_of}
use Rattle.probe_encode.specs.Labels.{node_of}
use Rattle.probe_encode.specs.Readings.{moment}
use Rattle.probe_encode.specs.Sources.{encoding_of}
use Rattle.probe_encode.specs.Weights.{with_bits, with_cycles, pair_weights}
use Rattle.formula_laws.specs.Probes.{AreListed}
use Rattle.formula_laws.specs.Runs.{IsFormulaRun}
use Rattle.formula_laws.specs.Weighing.{pair_signals, WeightsLaw}
use Rattle.formula_laws.proofs.Moments.{moments_in, all_moments, moment_of, moments_ascend, listed_moments, parity-filter}
use Rattle.formula_laws.proofs.Written.{written, written-append, length-written, written_all, falses, sum_of_falses, CanBeWritten, sum-written}
use Rattle.formula_laws.proofs.PairEnds.{ArePairsOf, pairs_of_part}
use Rattle.formula_laws.proofs.NodeRuns.{node_run, run_whole, run_matters, same_number, number_within, numbers_apart, pair_no_gate}

-- ---- the row of weights, moment by moment

abbrev place_of : RunView → Probe → ℕ
place_of view p = node_of view p.cycle p.bit

abbrev signal_of : List (List Signal) → Probe → Signal
signal_of pairs p = at pairs p.cycle p.bit

bits_written : (view : RunView) (pairs : List (List Signal)) (t : ℕ) (bs : List ℕ) (row : List Signal)
    → with_bits view pairs t bs row ≡ written (place_of view) (signal_of pairs) (map (moment t) bs) row
bits_written view pairs t [] row = refl
bits_written view pairs t (b ∷ bs) row = bits_written view pairs t bs (slice_set row (node_of view t b) (at pairs t b))

cycles_written : (view : RunView) (pairs : List (List Signal)) (ts : List ℕ) (row : List Signal)
    → with_cycles view pairs ts row ≡ written (place_of view) (signal_of pairs) (flat_map (moments_in view.gates.flat.bits) ts) row
cycles_written view pairs [] row = refl
cycles_written view pairs (t ∷ ts) row =
    let place = place_of view in
    let signal = signal_of pairs in
    let now = moments_in view.gates.flat.bits t in
    let later = flat_map (moments_in view.gates.flat.bits) ts in
    cycles_written view pairs ts (with_bits view pairs t (all_bits (probing_of view)) row)
    ∙ ap (written place signal later) (bits_written view pairs t (all_bits (probing_of view)) row)
    ∙ sym (written-append place signal now later row)

-- at first
abbrev no_weights : RunView → List Signal
no_weights view = replicate (length view.nodes) (Constant false)

-- all bits in all cycles
abbrev run_moments : RunView → List Probe
run_moments view = all_moments view.gates.flat.bits (length view.rows)

weights_written : (view : RunView) (pairs : List (List Signal))
    → pair_weights view pairs ≡ written (place_of view) (signal_of pairs) (run_moments view) (no_weights view)
weights_written view pairs = cycles_written view pairs (all_cycles (probing_of view)) (no_weights view)

false_is_not : (values : ℕ → Bool) (s : Signal) → s ≡ Constant false → value values s ≡ true → ⊥
false_is_not values s e t = let f : false ≡ true = subst (λ (x : Signal). value values x ≡ true) e t in cc

module _ (view : RunView) (u : Unrolled) (coned : Coned) (reach : Reach) (is : IsFormulaRun view u coned reach) (var : ℕ) where
  pairs : List (List Signal)
  pairs = pair_signals view var

  are : ArePairsOf (probing_of view) (variables_after var (probe_part (probing_of view) var).steps) (pair_signals view var)
  are = pairs_of_part (probing_of view) var

  -- a moment is of a bit and a cycle of the run
  bit_within : (p : Probe) → Contains (run_moments view) p → p.bit < u.bits
  bit_within p i = let m = (moment_of view.gates.flat.bits (length view.rows) p i).bit in subst (λ n. p.bit < n) (sym is.source.bits) m

  cycle_within : (p : Probe) → Contains (run_moments view) p → p.cycle < u.cycles
  cycle_within p i =
      let m = (moment_of view.gates.flat.bits (length view.rows) p i).cycle in
      subst (λ n. p.cycle < n) (sym is.source.cycles) (omega arith)

  abbrev FalseAtGate : Kind → List Part → List ℕ → ℕ → Signal → Type 0
  FalseAtGate kind parts operands i s = get_or view.nodes i Nothing ≡ Gate kind parts operands → s ≡ Constant false

  at_moment : (kind : Kind) (parts : List Part) (operands : List ℕ) (p : Probe) → Contains (run_moments view) p
      → FalseAtGate kind parts operands (place_of view p) (signal_of (pair_signals view var) p)
  at_moment kind parts operands p i e = elim (cases_Bool (is_pair (probing_of view) p.cycle p.bit)) [
    | inl pair ↦
        absurd (pair_no_gate view u coned reach is p.cycle p.bit (cycle_within p i) (bit_within p i) pair kind parts operands
        (ap₂ (λ (ns : List Node) k. get_or ns k Nothing) (sym is.source.nodes) (sym (same_number view u coned is.source p.cycle p.bit)) ∙ e))
    | inr other ↦ are.none p.cycle p.bit other
  ]

  leaves : AreOfLeaves view.nodes (pair_weights view (pair_signals view var))
  leaves i kind parts operands =
      subst (λ (w : List Signal). FalseAtGate kind parts operands i (signal_at w i)) (sym (weights_written view (pair_signals view var)))
      (written_all (FalseAtGate kind parts operands) (place_of view) (signal_of (pair_signals view var)) (run_moments view) (no_weights view)
      (λ k e. falses (length view.nodes) k) (at_moment kind parts operands) i)

  weighed : IsWeighed (nodes_of (encoding_of view u coned)) (pair_weights view (pair_signals view var))
  weighed = record {
    nodes = node_run view u coned is.source;
    gates = run_whole view u coned is.source;
    matters = run_matters view u coned is.source;
    as_long =
        ap length (weights_written view (pair_signals view var))
        ∙ length-written (place_of view) (signal_of (pair_signals view var)) (run_moments view) (no_weights view)
        ∙ length-replicate (length view.nodes) (Constant false);
    leaves = leaves;
  }

  below : (i : ℕ) → IsBelow (variables_after var (probe_part (probing_of view) var).steps) (signal_at (pair_weights view (pair_signals view var)) i)
  below i =
      let now = variables_after var (probe_part (probing_of view) var).steps in
      subst (λ (w : List Signal). IsBelow now (signal_at w i)) (sym (weights_written view (pair_signals view var)))
      (written_all (λ k s. IsBelow now s) (place_of view) (signal_of (pair_signals view var)) (run_moments view) (no_weights view)
      (λ k. subst (IsBelow now) (sym (falses (length view.nodes) k)) tt) (λ p h. are.below p.cycle p.bit) i)

  can_be_written : (values : ℕ → Bool) → CanBeWritten values (place_of view) (run_moments view) (no_weights view)
  can_be_written values = record {
    ascending = moments_ascend view.gates.flat.bits (length view.rows);
    within = λ p i.
        (let long : length (no_weights view) ≡ length u.nodes = length-replicate (length view.nodes) (Constant false) ∙ ap length is.source.nodes in
        let low = number_within view u coned is.source p.cycle p.bit (cycle_within p i) (bit_within p i) in
        let same = same_number view u coned is.source p.cycle p.bit in
        omega arith);
    apart = λ p q i j e.
        (let a = sym (same_number view u coned is.source p.cycle p.bit) ∙ e ∙ same_number view u coned is.source q.cycle q.bit in
        let both = numbers_apart view u coned is.source p.cycle p.bit q.cycle q.bit (bit_within p i) (bit_within q j) a in
        λ k. record { bit = both.1 k; cycle = both.0 k });
    empty = λ p i. ap (value values) (falses (length view.nodes) (place_of view p));
  }

  chosen_within : (values : ℕ → Bool) (p : Probe) → value values (signal_of (pair_signals view var) p) ≡ true
      → (p.bit < view.gates.flat.bits) × (p.cycle < length view.rows)
  chosen_within values p e = go (cases_lt p.bit view.gates.flat.bits) (cases_lt p.cycle (length view.rows))
    where
      none : (p.bit < view.gates.flat.bits → p.cycle < length view.rows → ⊥) → ⊥
      none out = false_is_not values (signal_of (pair_signals view var) p) (are.within p.cycle p.bit out) e

      go : (p.bit < view.gates.flat.bits) ⊎ (view.gates.flat.bits ≤ p.bit) → (p.cycle < length view.rows) ⊎ (length view.rows ≤ p.cycle)
          → (p.bit < view.gates.flat.bits) × (p.cycle < length view.rows)
      go (inl b) (inl c) = (b, c)
      go (inl b) (inr ge) = absurd (none (λ x y. omega arith))
      go (inr ge) other = absurd (none (λ x y. omega arith))

  sum : (values : ℕ → Bool) (shown : List Probe) → AreListed (chosen values (pair_signals view var)) shown → (sets : ℕ → Labels) (l : ℕ)
      → weighed_sum values (pair_weights view (pair_signals view var)) sets (length u.nodes) l ≡ set_of_nodes (index_of u) sets shown l
  sum values shown listed sets l =
      let place = place_of view in
      let signal = signal_of (pair_signals view var) in
      let start = no_weights view in
      let all = run_moments view in
      let choice : Probe → Bool = λ p. value values (signal p) in
      let long : length u.nodes ≡ length start = sym (length-replicate (length view.nodes) (Constant false) ∙ ap length is.source.nodes) in
      let a : weighed_sum values (pair_weights view (pair_signals view var)) sets (length u.nodes) l
      ≡ sum_to values (written place signal all start) sets l (length start) =
      weighed-is values (pair_weights view (pair_signals view var)) sets (length u.nodes) l
      ∙ ap₂ (λ (w : List Signal) k. sum_to values w sets l k) (weights_written view (pair_signals view var)) long in
      let b = sum-written values place signal sets l all start (can_be_written values) in
      let none = sum_of_falses values sets l (length start) (length view.nodes) in
      let c : sum_to values (written place signal all start) sets l (length start) ≡ parity (map (λ p. choice p && sets (place p) l) all) =
      b ∙ ap (λ x. xor x (parity (map (λ p. choice p && sets (place p) l) all))) none in
      let d = parity-filter choice (λ (p : Probe). sets (place p) l) all in
      let e : shown ≡ filter choice all =
      listed_moments view.gates.flat.bits (length view.rows) choice shown listed.ascending
      (λ p i. (listed.members p).0 i) (λ p f. (listed.members p).1 f) (chosen_within values) in
      let same : ◌≡◌ {A = Probe → Bool} (λ p. sets (place p) l) (λ p. sets (index_of u p.cycle p.bit) l) =
      λ k p. sets (same_number view u coned is.source p.cycle p.bit k) l in
      a ∙ c ∙ d ∙ sym (ap (λ (ps : List Probe). parity (map (λ (p : Probe). sets (place p) l) ps)) e)
      ∙ ap (λ (f : Probe → Bool). parity (map f shown)) same

pub weights : WeightsLaw
unfolding WeightsLaw
weights view u coned reach is var = record {
  weighed = weighed view u coned reach is var;
  below = below view u coned reach is var;
  sum = sum view u coned reach is var;
}
