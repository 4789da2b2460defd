-- What probes show in a run: the pairs of leaf and cycle that the clauses about probes have.
use Rattle.std.proofs.Common.{◌≡◌, ℕ, suc, ◌+◌, ◌*◌, ◌<◌, ◌≤◌, ◌⊎◌, inl, inr, true, false, not, ◌||◌, List, [], length, get_or, sym, ◌∙◌, ap, subst, arith}
use Rattle.std.specs.Prelude.{Contains, slice_get, Some}
use Rattle.std.proofs.lemmas.Bool.{cases_lt, and_parts, and_from}
use Rattle.std.proofs.lemmas.List.{get_or_past}
use Rattle.coco_base.specs.declared.cell.Part.TheVariants.{Zero, Vary}
use Rattle.coco_base.specs.declared.unrolled.Node.{Node}
use Rattle.coco_base.specs.declared.unrolled.Node.TheVariants.{Nothing}
use Rattle.coco_base.specs.declared.unrolled.Unrolled.{Unrolled}
use Rattle.coco_model.specs.Netlist.{IsCellBit}
use Rattle.coco_model.specs.Reach.{Reach, Reaches}
use Rattle.coco_model.specs.UnrolledRuns.{index_of, node_at, node_row}
use Rattle.gate_graph.specs.declared.driver.Driver.TheVariants as driver
use Rattle.gate_graph.proofs.Items.{some_at}
use Rattle.calm_reach.specs.CalmRows.{AreLiveInputs, Calmness, calm_of}
use Rattle.calm_reach.specs.Walks.{IsLeafBit}
use Rattle.label_cone.specs.Coned.{Coned}
use Rattle.probe_clauses.specs.RunViews.{RunView}
use Rattle.probe_clauses.specs.Probings.{probing_of, row_at, varies, drives_leaf, is_nothing, can_probe, is_pair}
use Rattle.probe_laws.specs.Showing.{IsReachedFrom}
use Rattle.formula_laws.specs.Runs.{IsFormulaRun}
use Rattle.formula_laws.proofs.ProbeWalks.{reaches_of, leaf_of, reached_of}
use Rattle.formula_laws.proofs.ProbePairs.{no_cell_drives, leaf_drives, can_of, unknown_of, known_not, not_false, or_left, or_right}

abbrev no_row : Calmness
no_row = record { parts = []; cells = 0; masks = [] }

-- a leaf in a cycle that is unknown and that is not calm in this cycle or the next
pub record IsShowable (view : RunView) (u : Unrolled) (t b : ℕ) : Type 0 where
  pub moment : ℕ
  pub when : (moment ≡ t) ⊎ (moment ≡ suc t)
  pub in_run : moment < length view.rows
  pub leaf : IsLeafBit view.gates.flat (row_at view.rows moment) b
  pub unknown : node_row u t b ≡ Vary

-- what a pair of the clauses is
pub record IsTestedPair (view : RunView) (u : Unrolled) (t b : ℕ) : Type 0 where
  pub no_cell : IsCellBit view.gates.flat b → ⊥
  pub can : can_probe (probing_of view) b ≡ true
  pub unknown : node_row u t b ≡ Vary
  pub moves : (varies (calm_of (row_at view.rows t) b) || varies (calm_of (row_at view.rows (t + 1)) b)) ≡ true

module _ (view : RunView) (u : Unrolled) (coned : Coned) (reach : Reach) (run : IsFormulaRun view u coned reach) where
  row_there : (t : ℕ) → t < length view.rows → slice_get view.rows t ≡ Some (row_at view.rows t)
  row_there t lt = some_at view.rows t no_row lt

  live_in : (t : ℕ) → t < length view.rows → AreLiveInputs view.gates.flat (row_at view.rows t)
  live_in t lt = run.reached.live t (row_at view.rows t) (row_there t lt)

  -- what is not calm is a bit of the run in one of its cycles
  pub moves_in_run : (t b : ℕ) → varies (calm_of (row_at view.rows t) b) ≡ true → t < length view.rows
  moves_in_run t b e = go (cases_lt t (length view.rows))
    where
      go : (t < length view.rows) ⊎ (length view.rows ≤ t) → t < length view.rows
      go (inl lt) = lt
      go (inr ge) =
          absurd (let w : false ≡ true = ap (λ (row : Calmness). varies (calm_of row b)) (sym (get_or_past view.rows t no_row ge)) ∙ e in cc)

  pub bit_in_run : (t b : ℕ) → t < length view.rows → calm_of (row_at view.rows t) b ≡ Vary → b < view.gates.flat.bits
  bit_in_run t b lt e = go (cases_lt b (length (row_at view.rows t).parts))
    where
      go : (b < length (row_at view.rows t).parts) ⊎ (length (row_at view.rows t).parts ≤ b) → b < view.gates.flat.bits
      go (inl low) = subst (λ n. b < n) (run.places t no_row lt).bits low
      go (inr high) = absurd (let w : Zero ≡ Vary = sym (get_or_past (row_at view.rows t).parts b Zero high) ∙ e in cc)

  -- the node of a bit, in both words
  pub number_same : (t b : ℕ) → t * view.gates.flat.bits + get_or view.ranks b 0 ≡ index_of u t b
  number_same t b =
      ap (λ n. t * n + get_or view.ranks b 0) (sym run.source.bits)
      ∙ ap (λ (rs : List ℕ). t * u.bits + get_or rs b 0) run.source.ranks

  node_same : (t b : ℕ) → get_or view.nodes (t * view.gates.flat.bits + get_or view.ranks b 0) Nothing ≡ node_at u (index_of u t b)
  node_same t b =
      ap (λ (ns : List Node). get_or ns (t * view.gates.flat.bits + get_or view.ranks b 0) Nothing) run.source.nodes
      ∙ ap (λ n. get_or u.nodes n Nothing) (number_same t b)

  -- ---- what a bit reaches

  reach_of : (t b leaf : ℕ) → t < length view.rows → b < view.gates.flat.bits
      → Contains (reach t b) leaf → Reaches view.gates.flat (calm_of (row_at view.rows t)) leaf b
  reach_of t b leaf lt inside h = ((run.reached.reached t (row_at view.rows t) (row_there t lt) b inside).1 leaf).0 h

  pub in_reach : (t b leaf : ℕ) → t < length view.rows → b < view.gates.flat.bits
      → Reaches view.gates.flat (calm_of (row_at view.rows t)) leaf b → Contains (reach t b) leaf
  in_reach t b leaf lt inside r = ((run.reached.reached t (row_at view.rows t) (row_there t lt) b inside).1 leaf).1 r

  -- a leaf among what a bit reaches is one to which a walk of the clauses comes
  pub walked_to : (t b leaf : ℕ) → t < length view.rows → b < view.gates.flat.bits → Contains (reach t b) leaf
      → IsReachedFrom (probing_of view) t b leaf
  walked_to t b leaf lt inside h = reached_of view run.built t (live_in t lt) b leaf (reach_of t b leaf lt inside h)

  pub leaf_in_reach : (t b leaf : ℕ) → t < length view.rows → b < view.gates.flat.bits → Contains (reach t b) leaf
      → IsLeafBit view.gates.flat (row_at view.rows t) leaf
  leaf_in_reach t b leaf lt inside h = leaf_of view run.built t (live_in t lt) leaf b (reach_of t b leaf lt inside h)

  pub walk_in_reach : (t b leaf : ℕ) → t < length view.rows → b < view.gates.flat.bits → (IsCellBit view.gates.flat leaf → ⊥)
      → IsReachedFrom (probing_of view) t b leaf → Contains (reach t b) leaf
  walk_in_reach t b leaf lt inside none r = in_reach t b leaf lt inside (reaches_of view run.built t (live_in t lt) b leaf none r)

  -- ---- pairs

  pub pair_is : (t b : ℕ) → IsShowable view u t b → is_pair (probing_of view) t b ≡ true
  pair_is t b s =
      let still = run.still s.moment (row_at view.rows s.moment) (row_there s.moment s.in_run) in
      let clash = λ (e : calm_of (row_at view.rows s.moment) b ≡ Zero). let w : Zero ≡ Vary = sym e ∙ s.leaf.varies in no_part w in
      let driven = leaf_drives view.gates.flat b (get_or view.gates.drivers b driver.Nothing) (run.built.drivers.each b) s.leaf.no_cell
      (λ undriven. clash (still.undriven b undriven)) in
      let can = can_of view.clock b (λ e. clash (still.clock_bit b e)) in
      let known = ap is_nothing (node_same t b) ∙ known_not (node_at u (index_of u t b)) s.unknown in
      and_from (drives_leaf (get_or view.gates.drivers b driver.Nothing)) _ driven
      (and_from (can_probe (probing_of view) b) _ can
      (and_from (not ((probing_of view).is_known t b)) _ (ap not known) (moving s.when)))
    where
      no_part : Zero ≡ Vary → ⊥
      no_part w = absurd cc

      moves : varies (calm_of (row_at view.rows s.moment) b) ≡ true
      moves = ap varies s.leaf.varies

      moving : (s.moment ≡ t) ⊎ (s.moment ≡ suc t)
          → (varies (calm_of (row_at view.rows t) b) || varies (calm_of (row_at view.rows (t + 1)) b)) ≡ true
      moving (inl e) =
          or_left (varies (calm_of (row_at view.rows t) b)) (varies (calm_of (row_at view.rows (t + 1)) b))
          (subst (λ m. varies (calm_of (row_at view.rows m) b) ≡ true) e moves)
      moving (inr e) =
          or_right (varies (calm_of (row_at view.rows t) b)) (varies (calm_of (row_at view.rows (t + 1)) b))
          (subst (λ m. varies (calm_of (row_at view.rows m) b) ≡ true) (let f : s.moment ≡ t + 1 = omega (arith, e) in f) moves)

  pub pair_of : (t b : ℕ) → is_pair (probing_of view) t b ≡ true → IsTestedPair view u t b
  pair_of t b e =
      let first = and_parts (drives_leaf (get_or view.gates.drivers b driver.Nothing)) _ e in
      let second = and_parts (can_probe (probing_of view) b) _ first.1 in
      let third = and_parts (not ((probing_of view).is_known t b)) _ second.1 in
      record {
        no_cell = no_cell_drives view.gates.flat b (get_or view.gates.drivers b driver.Nothing) run.built.one_driver (run.built.drivers.each b) first.0;
        can = second.0;
        unknown = unknown_of (node_at u (index_of u t b))
            (ap is_nothing (sym (node_same t b)) ∙ not_false ((probing_of view).is_known t b) third.0);
        moves = third.1;
      }
