-- A finding over one meaning of a run is one over what was simulated.
use Rattle.std.proofs.Common.{◌≡◌, ℕ, zero, suc, ◌<◌, List, sym, ◌∙◌, ap, subst, arith}
use Rattle.std.specs.Prelude.{Contains}
use Rattle.std.proofs.Math.Path.{fun_ext}
use Rattle.coco_base.specs.declared.netlist.Flat.{Flat}
use Rattle.coco_base.specs.declared.netlist.FlatCell.{FlatCell}
use Rattle.coco_base.specs.declared.setup.Setup.{Setup}
use Rattle.coco_base.specs.declared.finding.Probe.{Probe}
use Rattle.coco_model.specs.Labels.{parity}
use Rattle.coco_model.specs.Carried.{IsNext}
use Rattle.coco_model.specs.Run.{before}
use Rattle.coco_model.specs.Known.{Row, ones}
use Rattle.coco_model.specs.Reach.{Reach, IsReach}
use Rattle.coco_model.specs.Secure.{IsProbe, moments}
use Rattle.coco_model.specs.Roots.{Root, roots, IsSteady, IsKept, HasCellRoot, IsRooted}
use Rattle.coco_model.specs.Roots.Root.{output}
use Rattle.coco_model.specs.Findings.{IsChosen, IsSelection, IsSeen, IsWhole, set_of_pairs, HasFinding}
use Rattle.coco_model.proofs.Keepers.{before_below}
use Rattle.model_laws.proofs.Unique.{one_rooted_law}
use Rattle.model_laws.proofs.Windows.{moments-probes}
use Rattle.model_laws.proofs.Reached.{one_reach_law}
use Rattle.model_laws.specs.Laws.{OneRootedLaw, OneReachLaw}
use Rattle.walsh_laws.specs.Security.{IsSimulated}
use Rattle.walsh_laws.specs.Covered.{HasFindingOver, OneFindingLaw}
use Rattle.walsh_laws.proofs.Ready.{same_row}
use Rattle.walsh_laws.proofs.RunCorrelation.{map-cong}
use Rattle.walsh_laws.proofs.RunCounting.{seen_cycle}

-- roots over rows are roots over others that are the same in each cycle
kept_by : (row other : ℕ → Row) (root : ℕ → ℕ → Root) (t : ℕ) (c : FlatCell) → row t ≡ other t → row (before t) ≡ other (before t)
    → IsKept row root t c → IsKept other root t c
kept_by row other root zero c now old kept = kept
kept_by row other root (suc t) c now old kept = λ w h.
    subst (λ r. IsSteady r (other (suc t)) (root t) (root (suc t)) w) old
    (subst (λ r. IsSteady (row t) r (root t) (root (suc t)) w) now (kept w h))

cell_root_by : (row other : ℕ → Row) (root : ℕ → ℕ → Root) (t : ℕ) (c : FlatCell) → row t ≡ other t → row (before t) ≡ other (before t)
    → HasCellRoot row root t c → HasCellRoot other root t c
cell_root_by row other root t c now old has = record {
  known = λ n. has.known (λ e. n (ap (λ r. r c.output) (sym now) ∙ e));
  kept = λ e k. has.kept (ap (λ r. r c.output) now ∙ e) (kept_by other row root t c (sym now) (sym old) k);
  own = λ e n. has.own (ap (λ r. r c.output) now ∙ e) (λ k. n (kept_by row other root t c now old k));
}

rooted_by : (flat : Flat) (setup : Setup) (cycles : ℕ) (row other : ℕ → Row) (root : ℕ → ℕ → Root) (word : ℕ → ℕ → ℕ → Root)
    → ((t : ℕ) → t < cycles → row t ≡ other t)
    → IsRooted flat setup cycles row root word → IsRooted flat setup cycles other root word
rooted_by flat setup cycles row other root word same is = record {
  cells = λ t below c listed. cell_root_by row other root t c (same t below) (same (before t) (before_below t cycles below))
      (is.cells t below c listed);
  carried = record {
    given = is.carried.given;
    first = is.carried.first;
    next = λ t below. subst (λ r. IsNext roots flat setup (ones r) (root t) (word t) (root (suc t)) (word (suc t))) (same t (omega arith))
        (is.carried.next t below);
  };
}

pub one_finding : (flat : Flat) (setup : Setup) (cycles : ℕ) (rank : ℕ → ℕ) (row : ℕ → Row) (word : ℕ → ℕ → Row)
    → IsSimulated flat setup cycles rank row word
    → (root : ℕ → ℕ → Root) (rooted : ℕ → ℕ → ℕ → Root) → IsRooted flat setup cycles row root rooted
    → (reach : Reach) → IsReach flat setup cycles reach
    → (window d : ℕ) → HasFinding flat setup cycles window d → HasFindingOver flat setup cycles window d row reach root
unfolding OneRootedLaw OneReachLaw
one_finding flat setup cycles rank row word simulated root rooted is_rooted reach is window d h = record {
  probes = h.probes;
  pairs = h.pairs;
  set_of = h.set_of;
  finding = record {
    some = h.finding.some;
    most = h.finding.most;
    each = h.finding.each;
    different = h.finding.different;
    once = h.finding.once;
    seen = λ u i. seen u (h.finding.seen u i);
    selection = selection;
    member = h.finding.member;
    not_empty = same h.finding.member ∙ h.finding.not_empty;
    whole = subst (IsWhole setup.table) (fun_ext (λ l. sym (same l))) h.finding.whole;
  };
}
  where
    rows : (t : ℕ) → t < cycles → row t ≡ h.row t
    rows = same_row flat setup cycles rank row word simulated h.row h.word h.known

    roots_same : (t : ℕ) → t < cycles → root t ≡ h.root t
    roots_same t below = fun_ext (one_rooted_law flat setup cycles rank simulated.ranked simulated.bound_to.bound row root h.root
        rooted h.rooted_word is_rooted (rooted_by flat setup cycles h.row row h.root h.rooted_word (λ s b. sym (rows s b)) h.rooted) t
        below).0

    is_reach : IsReach flat setup cycles h.reach
    is_reach = record { row = h.row; word = h.word; calm = h.calm; known = h.known; still = h.still; reached = h.reached }

    reach_same : (t b : ℕ) → t < cycles → b < flat.bits → reach t b ≡ h.reach t b
    reach_same = one_reach_law flat setup cycles rank simulated.ranked simulated.bound_to.bound reach h.reach is is_reach

    selection : IsSelection flat cycles row root h.set_of
    selection = record {
      empty = h.finding.selection.empty;
      single = h.finding.selection.single;
      outputs = λ t below c listed own.
          subst (λ r. IsChosen h.set_of r (root t) c (h.set_of (output t c.output))) (sym (rows t below))
          (subst (λ r. IsChosen h.set_of (h.row t) r c (h.set_of (output t c.output))) (sym (roots_same t below))
          (h.finding.selection.outputs t below c listed (ap (λ r. r c.output) (sym (roots_same t below)) ∙ own)));
    }

    lasts : List Probe
    lasts = moments cycles window h.probes

    all : (p : Probe) → Contains lasts p → IsProbe flat.bits setup.clock cycles p
    all = moments-probes flat.bits setup.clock cycles window h.probes h.finding.each

    seen : (u : Probe) → IsSeen h.row h.reach lasts u → IsSeen row reach lasts u
    seen u s = record {
      probe = s.probe;
      listed = s.listed;
      shows = record {
        reached = subst (λ ls. Contains ls u.bit)
            (sym (reach_same s.probe.cycle s.probe.bit (all s.probe s.listed).cycle (all s.probe s.listed).bit))
            s.shows.reached;
        when = s.shows.when;
      };
      unknown = ap (λ r. r u.bit) (rows u.cycle (seen_cycle flat setup cycles h.row h.reach lasts all u s)) ∙ s.unknown;
    }

    same : (l : ℕ) → set_of_pairs root h.set_of h.pairs l ≡ set_of_pairs h.root h.set_of h.pairs l
    same l = ap parity (map-cong (λ (u : Probe). h.set_of (root u.cycle u.bit) l) (λ (u : Probe). h.set_of (h.root u.cycle u.bit) l) h.pairs
        (λ u i. ap (λ r. h.set_of (r u.bit) l)
        (roots_same u.cycle (seen_cycle flat setup cycles h.row h.reach lasts all u (h.finding.seen u i)))))

pub one_finding_law : OneFindingLaw
unfolding OneFindingLaw
one_finding_law flat setup cycles sim = one_finding flat setup cycles sim.rank sim.row sim.word sim.is
