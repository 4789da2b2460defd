-- What the clauses about probes choose are the probes and the pairs of a candidate, and each of these is chosen.
use Rattle.std.proofs.Common.{◌≡◌, ℕ, suc, ◌<◌, ◌≤◌, ◌⊎◌, inl, inr, true, List, length, sym, subst, arith}
use Rattle.std.specs.Prelude.{Contains}
use Rattle.coco_base.specs.declared.finding.Probe.{Probe}
use Rattle.coco_base.specs.declared.unrolled.Unrolled.{Unrolled}
use Rattle.coco_model.specs.Findings.{IsSeen}
use Rattle.coco_model.specs.Reach.{Reach}
use Rattle.coco_model.specs.Secure.{lasting, moments}
use Rattle.coco_model.specs.UnrolledRuns.{node_row}
use Rattle.model_laws.proofs.Lists.{Contains-flat_map, joined_of_flat_map}
use Rattle.model_laws.proofs.Windows.{lasts_at, moment_of}
use Rattle.label_cone.specs.Coned.{Coned}
use Rattle.probe_clauses.specs.RunViews.{RunView}
use Rattle.probe_clauses.specs.Probings.{probing_of}
use Rattle.probe_laws.specs.Showing.{Choice, IsPlace, IsProbeChoice, IsShown, count_chosen}
use Rattle.formula_laws.specs.Probes.{AreListed, AreProbesOf, ProbesLaw}
use Rattle.formula_laws.specs.Runs.{IsFormulaRun, seen_in}
use Rattle.formula_laws.proofs.ProbeCounts.{count_listed}
use Rattle.formula_laws.proofs.ProbePairs.{can_of, no_clock_of}
use Rattle.formula_laws.proofs.ProbeShown.{IsShowable, bit_in_run, leaf_in_reach, pair_is, pair_of, walk_in_reach, walked_to}

turned : (m t : ℕ) → (m ≡ t) ⊎ (m ≡ suc t) → (t ≡ m) ⊎ (suc t ≡ m)
turned m t (inl e) = inl (sym e)
turned m t (inr e) = inr (sym e)

turned_back : (m t : ℕ) → (t ≡ m) ⊎ (suc t ≡ m) → (m ≡ t) ⊎ (m ≡ suc t)
turned_back m t (inl e) = inl (sym e)
turned_back m t (inr e) = inr (sym e)

not_later : (m t n : ℕ) → (m ≡ t) ⊎ (m ≡ suc t) → m < n → t < n
not_later m t n (inl e) lt = omega (arith, e, lt)
not_later m t n (inr e) lt = omega (arith, e, lt)

module _ (view : RunView) (u : Unrolled) (coned : Coned) (reach : Reach) (run : IsFormulaRun view u coned reach)
    (probes pairs : Choice) (listed shown : List Probe) (are_probes : AreListed probes listed) (are_pairs : AreListed pairs shown) where
  -- ---- from a choice

  seen_by : IsProbeChoice (probing_of view) probes pairs → (p : Probe) → pairs p.cycle p.bit ≡ true
      → IsSeen (node_row u) reach (moments u.cycles view.window listed) p
  seen_by c p e =
      let s = c.shown p.cycle p.bit e in
      let pair = pair_of view u coned reach run p.cycle p.bit (c.are_pairs p.cycle p.bit e) in
      let place = c.probe_places s.cycle s.bit s.chosen in
      let probe : Probe = record { bit = s.bit; cycle = s.cycle } in
      let moment : Probe = record { bit = s.bit; cycle = s.moment } in
      record {
        probe = moment;
        listed = Contains-flat_map (lasting u.cycles view.window) listed probe moment ((are_probes.members probe).1 s.chosen)
            (lasts_at u.cycles view.window probe s.moment s.lasts.begun s.lasts.not_over
            (subst (λ n. s.moment < n) (sym run.source.cycles) s.in_run));
        shows = record {
          reached = walk_in_reach view u coned reach run s.moment s.bit p.bit s.in_run place.bit pair.no_cell s.reached;
          when = turned s.moment p.cycle s.when;
        };
        unknown = pair.unknown;
      }

  of_choice : IsProbeChoice (probing_of view) probes pairs → AreProbesOf (seen_in view u reach) view.order listed shown
  of_choice c = record {
    some = subst (λ n. 0 < n) count c.some;
    most = subst (λ n. n ≤ view.order) count c.most;
    each = λ p h.
        let e = (are_probes.members p).0 h in
        let place = c.probe_places p.cycle p.bit e in
        record {
          bit = subst (λ n. p.bit < n) (sym run.source.bits) place.bit;
          no_clock = no_clock_of view.clock p.bit (c.probed p.cycle p.bit e);
          cycle = subst (λ n. p.cycle < n) (sym run.source.cycles) place.cycle;
        };
    ascending = are_probes.ascending;
    in_order = are_pairs.ascending;
    seen = λ p h. seen_by c p ((are_pairs.members p).0 h);
  }
    where
      count : count_chosen (probing_of view) probes ≡ length listed
      count = count_listed (probing_of view) probes listed are_probes c.probe_places

  -- ---- to a choice

  -- what is seen: it can be shown, and a chosen probe does
  record IsSeenPair (t b : ℕ) : Type 0 where
    showable : IsShowable view u t b
    is_shown : IsShown (probing_of view) probes t b

  module _ (are : AreProbesOf (seen_in view u reach) view.order listed shown) where
    probe_place : (t b : ℕ) → probes t b ≡ true → IsPlace (probing_of view) t b
    probe_place t b e =
        let p = are.each (record { bit = b; cycle = t }) ((are_probes.members (record { bit = b; cycle = t })).1 e) in
        record {
          cycle = subst (λ n. t < n) run.source.cycles p.cycle;
          bit = subst (λ n. b < n) run.source.bits p.bit;
        }

    seen_pair : (t b : ℕ) → pairs t b ≡ true → IsSeenPair t b
    seen_pair t b e =
        let pair : Probe = record { bit = b; cycle = t } in
        let s = are.seen pair ((are_pairs.members pair).1 e) in
        let j = joined_of_flat_map (lasting u.cycles view.window) listed s.probe s.listed in
        let m = moment_of u.cycles view.window j.source s.probe j.member in
        let lt = subst (λ n. s.probe.cycle < n) run.source.cycles m.below in
        let inside = subst (λ n. j.source.bit < n) run.source.bits (are.each j.source j.listed).bit in
        let reached = subst (λ c. Contains (reach s.probe.cycle c) b) (sym m.bit) s.shows.reached in
        let when = turned_back s.probe.cycle t s.shows.when in
        record {
          showable = record {
            moment = s.probe.cycle;
            when = when;
            in_run = lt;
            leaf = leaf_in_reach view u coned reach run s.probe.cycle j.source.bit b lt inside reached;
            unknown = s.unknown;
          };
          is_shown = record {
            cycle = j.source.cycle;
            bit = j.source.bit;
            chosen = (are_probes.members j.source).0 j.listed;
            moment = s.probe.cycle;
            when = when;
            in_run = lt;
            lasts = record { begun = m.from; not_over = m.within };
            reached = walked_to view u coned reach run s.probe.cycle j.source.bit b lt inside reached;
          };
        }

    to_choice : IsProbeChoice (probing_of view) probes pairs
    to_choice = record {
      some = subst (λ n. 0 < n) (sym count) are.some;
      most = subst (λ n. n ≤ view.order) (sym count) are.most;
      probe_places = probe_place;
      probed = λ t b e. can_of view.clock b (are.each (record { bit = b; cycle = t })
          ((are_probes.members (record { bit = b; cycle = t })).1 e)).no_clock;
      pair_places = λ t b e.
          let s = (seen_pair t b e).showable in
          record {
            cycle = not_later s.moment t (length view.rows) s.when s.in_run;
            bit = bit_in_run view u coned reach run s.moment b s.in_run s.leaf.varies;
          };
      are_pairs = λ t b e. pair_is view u coned reach run t b (seen_pair t b e).showable;
      shown = λ t b e. (seen_pair t b e).is_shown;
    }
      where
        count : count_chosen (probing_of view) probes ≡ length listed
        count = count_listed (probing_of view) probes listed are_probes probe_place

pub probes_law : ProbesLaw
unfolding ProbesLaw
probes_law view u coned reach run probes pairs listed shown are_probes are_pairs = (
  of_choice view u coned reach run probes pairs listed shown are_probes are_pairs,
  to_choice view u coned reach run probes pairs listed shown are_probes are_pairs,
)
