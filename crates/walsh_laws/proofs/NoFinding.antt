-- Where no finding exists, the run is secure.
use Rattle.std.proofs.Common.{◌≡◌, ℕ, ◌<◌, ◌≤◌, Bool, true, List, [], ◌∷◌, map, length, sym, ◌∙◌, subst, arith, pos}
use Rattle.std.specs.Prelude.{Contains}
use Rattle.std.proofs.Math.IntN.{ℤ_discrete}
use Rattle.std.proofs.Math.Path.{fun_ext}
use Rattle.std.proofs.lemmas.Bool.{false≢true}
use Rattle.coco_base.specs.declared.netlist.Flat.{Flat}
use Rattle.coco_base.specs.declared.finding.Probe.{Probe}
use Rattle.coco_base.specs.declared.setup.Setup.{Setup}
use Rattle.coco_model.specs.Netlist.{HasNoRepeat}
use Rattle.coco_model.specs.Labels.{parity}
use Rattle.coco_model.specs.Secure.{IsProbe, lasting, moments, IsSecureFor, IsSecure}
use Rattle.coco_model.specs.Findings.{Labels, IsWhole, IsSeen, HasFinding}
use Rattle.coco_model.proofs.Basics.{Contains-here}
use Rattle.model_laws.proofs.Lists.{joined_of_flat_map}
use Rattle.model_laws.proofs.Windows.{moments-probes, seen_by_more}
use Rattle.model_laws.proofs.Securely.{secure_law}
use Rattle.coco_model.specs.Meaning.{HasMeaning}
use Rattle.model_laws.specs.Laws.{SecureLaw}
use Rattle.walsh_laws.specs.Security.{IsSimulated, IsPair, correlation, IsSetOfPairs, NoFindingLaw}
use Rattle.walsh_laws.proofs.WholeSets.{whole_outside}
use Rattle.walsh_laws.proofs.Listing.{IsOnce, once_of}
use Rattle.walsh_laws.proofs.Ready.{AreReached, reached_of, ready_of, meaning_of, simulated_by}
use Rattle.walsh_laws.proofs.RunCorrelation.{run_correlation}
use Rattle.walsh_laws.proofs.RunCounting.{run_counting, seen_cycle, seen_inside}

member_of_odd : {X : Type 0} (f : X → Bool) (xs : List X) → parity (map f xs) ≡ true → (x : X) × Contains xs x
member_of_odd f [] e = absurd (false≢true e)
member_of_odd f (x ∷ xs) e = (x, Contains-here x xs)

module _ (flat : Flat) (setup : Setup) (cycles : ℕ) (rank : ℕ → ℕ) (m : HasMeaning flat setup cycles)
    (simulated : IsSimulated flat setup cycles rank m.row m.word) where
  reached : AreReached flat setup cycles m.row m.reaches.calm m.reach
  reached = reached_of flat setup cycles rank m.row m.word simulated m.reach m.reaches

  seen_pair : (probes : List Probe) → ((p : Probe) → Contains probes p → IsProbe flat.bits setup.clock cycles p) → (u : Probe)
      → IsSeen m.row m.reach probes u → IsPair flat cycles u
  seen_pair probes each u s = record {
    bit = seen_inside flat setup cycles simulated.range m.row m.reaches.calm m.reach reached m.row probes each u s;
    cycle = seen_cycle flat setup cycles m.row m.reach probes each u s;
  }

  -- pairs that probes show, with a selection by which their set is whole and not empty, are a finding
  finding_of : (window d : ℕ) (probes : List Probe) → length probes ≤ d
      → ((p : Probe) → Contains probes p → IsProbe flat.bits setup.clock cycles p)
      → (pairs : List Probe) → HasNoRepeat pairs
      → ((u : Probe) → Contains pairs u → IsSeen m.row m.reach (moments cycles window probes) u)
      → (labels : Labels) → IsWhole setup.table labels → (l : ℕ) → labels l ≡ true → IsSetOfPairs flat cycles m.row m.root pairs labels
      → HasFinding flat setup cycles window d
  finding_of window d probes few each pairs once seen labels whole l has r = go (once_of probes)
    where
      go : IsOnce probes → HasFinding flat setup cycles window d
      go o = record {
        row = m.row;
        word = m.word;
        calm = m.reaches.calm;
        reach = m.reach;
        root = m.root;
        rooted_word = m.rooted;
        known = m.known;
        still = reached.still;
        reached = reached.reached;
        rooted = m.roots;
        probes = o.probes;
        pairs = pairs;
        set_of = r.set_of;
        finding = record {
          some = some (member_of_odd (λ (u : Probe). r.set_of (m.root u.cycle u.bit) l) pairs (sym (r.same l) ∙ has));
          most = let k = o.fewer in omega arith;
          each = λ p i. each p (o.from p i);
          different = o.once;
          once = once;
          seen = λ u h. seen_by_more cycles window m.row m.reach probes o.probes o.into u (seen u h);
          selection = r.selection;
          member = l;
          not_empty = sym (r.same l) ∙ has;
          whole = subst (IsWhole setup.table) (fun_ext r.same) whole;
        };
      }
        where
          some : (u : Probe) × Contains pairs u → 0 < length o.probes
          some (u, h) =
              let r = joined_of_flat_map (lasting cycles window) probes (seen u h).probe (seen u h).listed in
              let c = o.into r.source r.listed in let k = c.1 in omega arith

  pub secure_for : (window d : ℕ) → (HasFinding flat setup cycles window d → ⊥)
      → IsSecureFor flat setup cycles window m.reach d
  unfolding IsSecureFor reached
  secure_for window d none run memory runs probes few each =
      run_counting flat setup cycles rank m.row m.word m.root m.rooted
      (ready_of flat setup cycles rank m.row m.word simulated m.root m.rooted m.roots)
      m.reaches.calm m.reach reached run memory runs lasts all (record { each = balanced })
    where
      lasts : List Probe
      lasts = moments cycles window probes

      all : (p : Probe) → Contains lasts p → IsProbe flat.bits setup.clock cycles p
      all = moments-probes flat.bits setup.clock cycles window probes each

      balanced : (pairs : List Probe) → HasNoRepeat pairs → ((u : Probe) → Contains pairs u → IsSeen m.row m.reach lasts u)
          → (labels : Labels) → IsWhole setup.table labels → (l : ℕ) → labels l ≡ true → correlation setup cycles pairs labels run ≡ pos 0
      balanced pairs once seen labels whole l has = go (ℤ_discrete (correlation setup cycles pairs labels run) (pos 0))
        where
          go : Dec (correlation setup cycles pairs labels run ≡ pos 0) → correlation setup cycles pairs labels run ≡ pos 0
          go (yes e) = e
          go (no n) = absurd (none (finding_of window d probes few each pairs once seen labels whole l has
              (run_correlation flat setup cycles rank m.row m.word m.root m.rooted
              (ready_of flat setup cycles rank m.row m.word simulated m.root m.rooted m.roots) run memory runs pairs
              (λ u h. seen_pair lasts all u (seen u h)) labels (whole_outside setup.table simulated.bound_to.table cycles labels whole)
              n)))

pub no_finding_law : NoFindingLaw
unfolding NoFindingLaw SecureLaw
no_finding_law flat setup cycles sim window d none = go (meaning_of flat setup cycles sim.rank sim.row sim.word sim.is)
  where
    go : HasMeaning flat setup cycles → IsSecure flat setup cycles window d
    go m = secure_law flat setup cycles sim.rank sim.is.ranked sim.is.bound_to.bound m.reach m.reaches window d
        (secure_for flat setup cycles sim.rank m (simulated_by flat setup cycles sim.rank sim.row sim.word sim.is m.row m.word m.known) window d none)
