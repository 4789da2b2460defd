-- Findings and written findings.
use Rattle.std.proofs.Common.{◌≡◌, ℕ, ◌<◌, ◌≤◌, ◌⊎◌, inl, inr, false, List, map, length, get_or, sym, ◌∙◌, ap, subst, arith}
use Rattle.std.specs.Prelude.{Contains}
use Rattle.std.specs.List.{range_with_len}
use Rattle.std.proofs.Math.Path.{fun_ext}
use Rattle.std.proofs.lemmas.Bool.{cases_lt}
use Rattle.std.proofs.lemmas.List.FromFn.{get_or-map-range_with_len, length-map-range_with_len}
use Rattle.coco_base.specs.declared.netlist.Flat.{Flat}
use Rattle.coco_base.specs.declared.setup.Setup.{Setup}
use Rattle.coco_base.specs.declared.finding.Probe.{Probe}
use Rattle.coco_base.specs.declared.unrolled.Node.{Node}
use Rattle.coco_base.specs.declared.unrolled.Node.TheVariants.{Nothing}
use Rattle.coco_model.specs.Labels.{parity}
use Rattle.coco_model.specs.Known.{Row}
use Rattle.coco_model.specs.Reach.{Reach}
use Rattle.coco_model.specs.Secure.{IsProbe, moments}
use Rattle.coco_model.specs.Roots.{Root}
use Rattle.coco_model.specs.Findings.{Labels, IsWhole, set_of_pairs, HasFinding}
use Rattle.coco_model.specs.Nodes.{IsNodeSet, IsAllowedChoice, node_set, IsNodeSelection}
use Rattle.coco_model.specs.WrittenFindings.{set_of_nodes, IsWrittenFinding, HasLeakingTry}
use Rattle.model_laws.proofs.Windows.{moments-probes, seen_by_more}
use Rattle.model_laws.proofs.Selected.{node_sets_law, root_sets_law}
use Rattle.model_laws.specs.Laws.{NodeSetsLaw, RootSetsLaw, HasSelection}
use Rattle.walsh_laws.specs.Written.{IsPlaceOf, AreWrittenOver, probed_with, WritingLaw, ReadingLaw}
use Rattle.walsh_laws.specs.Covered.{HasFindingOver}
use Rattle.walsh_laws.proofs.OneFinding.{one_finding}
use Rattle.walsh_laws.proofs.Ready.{ready_of, AreReached, reached_of}
use Rattle.walsh_laws.proofs.RunCorrelation.{map-cong, output_not_later}
use Rattle.walsh_laws.proofs.RunCounting.{seen_cycle, seen_inside}
use Rattle.walsh_laws.proofs.Sorting.{ascending_once, HasSorted, sorted}
use Rattle.walsh_laws.proofs.NodeNumbers.{IsNumberFor, number_for, node_set_by}

module _ (flat : Flat) (setup : Setup) (cycles : ℕ) (rank : ℕ → ℕ) (row : ℕ → Row) (word : ℕ → ℕ → Row) (root : ℕ → ℕ → Root)
    (rooted : ℕ → ℕ → ℕ → Root)
    (reach : Reach) (index : ℕ → ℕ
    → ℕ) (nodes : List Node) (over : AreWrittenOver flat setup cycles rank row word root rooted reach index nodes) where
  are_reached : AreReached flat setup cycles row over.reached.calm reach
  are_reached = reached_of flat setup cycles rank row word over.simulated reach over.reached

  -- a written finding is one over roots
  pub finding_from : (window d : ℕ) (probes pairs : List Probe) (numbers : List ℕ) (sets : ℕ → Labels)
      → IsWrittenFinding (probed_with flat setup cycles window row reach index nodes) d probes pairs numbers sets
      → HasFinding flat setup cycles window d
  unfolding RootSetsLaw are_reached
  finding_from window d probes pairs numbers sets w = go
      (root_sets_law flat cycles index row root (λ i. get_or nodes i Nothing) over.listed.stand over.simulated.range over.simulated.driven
      (output_not_later flat setup cycles rank row word root rooted
      (ready_of flat setup cycles rank row word over.simulated root rooted over.roots)) sets node_sets)
    where
      node_sets : (t b : ℕ) → t < cycles → b < flat.bits → IsNodeSet sets (index t b) (get_or nodes (index t b) Nothing)
      node_sets t b below inside =
          node_set_by sets (index t b) (get_or numbers (index t b) 0) (get_or nodes (index t b) Nothing)
          (w.candidate.selection.allowed (index t b) (over.listed.within t b below inside))
          (w.candidate.selection.follows (index t b) (over.listed.within t b below inside))

      lasts : List Probe
      lasts = moments cycles window probes

      all : (p : Probe) → Contains lasts p → IsProbe flat.bits setup.clock cycles p
      all = moments-probes flat.bits setup.clock cycles window probes w.candidate.each

      go : HasSelection flat cycles index row root sets → HasFinding flat setup cycles window d
      go h = record {
        row = row;
        word = word;
        calm = over.reached.calm;
        reach = reach;
        root = root;
        rooted_word = rooted;
        known = over.simulated.known;
        still = are_reached.still;
        reached = are_reached.reached;
        rooted = over.roots;
        probes = probes;
        pairs = pairs;
        set_of = h.set_of;
        finding = record {
          some = w.candidate.some;
          most = w.candidate.most;
          each = w.candidate.each;
          different = ascending_once probes w.candidate.ascending;
          once = ascending_once pairs w.candidate.in_order;
          seen = w.candidate.seen;
          selection = h.selection;
          member = w.leaks.member;
          not_empty = sym (same w.leaks.member) ∙ w.leaks.not_empty;
          whole = subst (IsWhole setup.table) (fun_ext same) w.leaks.whole;
        };
      }
        where
          same : (l : ℕ) → set_of_nodes index sets pairs l ≡ set_of_pairs root h.set_of pairs l
          same l = ap parity (map-cong (λ (u : Probe). sets (index u.cycle u.bit) l) (λ (u : Probe). h.set_of (root u.cycle u.bit) l) pairs
              (λ u i. h.same u.cycle u.bit l (seen_cycle flat setup cycles row reach lasts all u (w.candidate.seen u i))
              (seen_inside flat setup cycles over.simulated.range row over.reached.calm reach are_reached row lasts all u
              (w.candidate.seen u i))))

  -- the sets of nodes by those of roots
  set_at : (Root → Labels) → (i : ℕ) → (i < length nodes) ⊎ (length nodes ≤ i) → Labels
  set_at set_of i (inl below) l = set_of (root (over.listed.covered i below).cycle (over.listed.covered i below).bit) l
  set_at set_of i (inr past) l = false

  set_at-index : (set_of : Root → Labels) (t b l : ℕ) → t < cycles → b < flat.bits
      → (c : (index t b < length nodes) ⊎ (length nodes ≤ index t b)) → set_at set_of (index t b) c l ≡ set_of (root t b) l
  unfolding set_at
  set_at-index set_of t b l below inside (inr past) = absurd (let e = over.listed.within t b below inside in omega arith)
  set_at-index set_of t b l below inside (inl h) = go (over.listed.covered (index t b) h)
    where
      go : (p : IsPlaceOf flat cycles index (index t b)) → set_of (root p.cycle p.bit) l ≡ set_of (root t b) l
      go p = let e = over.listed.stand.apart t b p.cycle p.bit inside p.inside p.number in
          ap (λ s. set_of (root s p.bit) l) (sym e.0) ∙ ap (λ c. set_of (root t c) l) (sym e.1)

  pub written_from : (window d : ℕ) → HasFindingOver flat setup cycles window d row reach root
      → HasLeakingTry (probed_with flat setup cycles window row reach index nodes) d
  unfolding NodeSetsLaw set_at are_reached
  written_from window d h = go (sorted h.probes h.finding.different) (sorted h.pairs h.finding.once)
    where
      sets : ℕ → Labels
      sets i = set_at h.set_of i (cases_lt i (length nodes))

      sets_same : (t b l : ℕ) → t < cycles → b < flat.bits
          → set_at h.set_of (index t b) (cases_lt (index t b) (length nodes)) l ≡ h.set_of (root t b) l
      sets_same t b l below inside = set_at-index h.set_of t b l below inside (cases_lt (index t b) (length nodes))

      node_sets : (t b : ℕ) → t < cycles → b < flat.bits → IsNodeSet sets (index t b) (get_or nodes (index t b) Nothing)
      node_sets = node_sets_law flat cycles index row root (λ i. get_or nodes i Nothing) over.listed.stand over.simulated.range
          h.set_of h.finding.selection sets sets_same

      number_at : (i : ℕ) → i < length nodes → IsNumberFor sets i (get_or nodes i Nothing)
      number_at i below = number_for sets i (get_or nodes i Nothing) (over.listed.places i) (at (over.listed.covered i below))
        where
          at : IsPlaceOf flat cycles index i → IsNodeSet sets i (get_or nodes i Nothing)
          at p = subst (λ j. IsNodeSet sets j (get_or nodes j Nothing)) (sym p.number) (node_sets p.cycle p.bit p.below p.inside)

      number_by : (i : ℕ) → (i < length nodes) ⊎ (length nodes ≤ i) → ℕ
      number_by i (inl below) = (number_at i below).number
      number_by i (inr past) = 0

      numbers : List ℕ
      numbers = map (λ i. number_by i (cases_lt i (length nodes))) (range_with_len 0 (length nodes))

      number_is : (i : ℕ) → i < length nodes → (below : i < length nodes) × (get_or numbers i 0 ≡ (number_at i below).number)
      number_is i inside =
          at (cases_lt i (length nodes))
          (get_or-map-range_with_len (λ i. number_by i (cases_lt i (length nodes))) 0 (length nodes) i i 0 inside (omega arith))
        where
          at : (c : (i < length nodes) ⊎ (length nodes ≤ i)) → get_or numbers i 0 ≡ number_by i c
              → (below : i < length nodes) × (get_or numbers i 0 ≡ (number_at i below).number)
          at (inl below) e = (below, e)
          at (inr past) e = absurd (omega arith)

      node_selection : IsNodeSelection nodes numbers sets
      node_selection = record {
        as_long = length-map-range_with_len (λ i. number_by i (cases_lt i (length nodes))) 0 (length nodes);
        allowed = λ i below. let n = number_is i below in
            subst (λ k. IsAllowedChoice k (get_or nodes i Nothing)) (sym n.1) (number_at i n.0).allowed;
        follows = λ i below l. let n = number_is i below in
            (number_at i n.0).follows l ∙ ap (λ k. node_set sets k (get_or nodes i Nothing) l) (sym n.1);
      }

      lasts : List Probe
      lasts = moments cycles window h.probes

      all : (p : Probe) → Contains lasts p → IsProbe flat.bits setup.clock cycles p
      all = moments-probes flat.bits setup.clock cycles window h.probes h.finding.each

      go : HasSorted h.probes → HasSorted h.pairs → HasLeakingTry (probed_with flat setup cycles window row reach index nodes) d
      go ps us = record {
        probes = ps.probes;
        pairs = us.probes;
        numbers = numbers;
        sets = sets;
        is_try = record {
          candidate = record {
            some = let e = ps.as_long in let k = h.finding.some in omega arith;
            most = let e = ps.as_long in let k = h.finding.most in omega arith;
            each = λ p i. h.finding.each p (ps.from p i);
            ascending = ps.ascending;
            in_order = us.ascending;
            seen = λ u i. seen_by_more cycles window row reach h.probes ps.probes ps.into u (h.finding.seen u (us.from u i));
            selection = node_selection;
          };
          elsewhere = record { zero = λ i below n. let k = number_is i below in k.1 ∙ (number_at i k.0).elsewhere n };
        };
        leaks = record {
          member = h.finding.member;
          not_empty = same h.finding.member ∙ h.finding.not_empty;
          whole = subst (IsWhole setup.table) (fun_ext (λ l. sym (same l))) h.finding.whole;
        };
      }
        where
          same : (l : ℕ) → set_of_nodes index sets us.probes l ≡ set_of_pairs root h.set_of h.pairs l
          same l = us.parities (λ (u : Probe). sets (index u.cycle u.bit) l)
              ∙ ap parity (map-cong (λ (u : Probe). sets (index u.cycle u.bit) l) (λ (u : Probe). h.set_of (root u.cycle u.bit) l) h.pairs
              (λ u i. sets_same u.cycle u.bit l (seen_cycle flat setup cycles row reach lasts all u (h.finding.seen u i))
              (seen_inside flat setup cycles over.simulated.range row over.reached.calm reach are_reached row lasts all u
              (h.finding.seen u i))))

pub writing_law : WritingLaw
unfolding WritingLaw
writing_law flat setup cycles r window d h =
    written_from flat setup cycles r.rank r.row r.word r.root r.rooted r.reach r.index r.nodes r.over window d
    (one_finding flat setup cycles r.rank r.row r.word r.over.simulated r.root r.rooted r.over.roots r.reach r.over.reached window d h)

pub reading_law : ReadingLaw
unfolding ReadingLaw
reading_law flat setup cycles r = finding_from flat setup cycles r.rank r.row r.word r.root r.rooted r.reach r.index r.nodes r.over
