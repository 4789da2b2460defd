-- Findings as values, by what code looks at: probes and pairs in order, a selection, what is seen, and the set.
use Rattle.std.proofs.Common.{◌≡◌, ◌≢◌, ℕ, suc, ◌+◌, ◌<◌, ◌≤◌, ◌⊎◌, inl, inr, Bool, List, length, refl, sym, ◌∙◌, ap, subst, arith}
use Rattle.std.specs.Prelude.{◌↔◌, IsTrue, Contains, slice_get, Some, Option}
use Rattle.std.proofs.lemmas.Bool.{cases_lt}
use Rattle.std.proofs.lemmas.List.{get_or_past}
use Rattle.coco_base.specs.declared.cell.Part.TheVariants.{Zero, Vary}
use Rattle.coco_base.specs.declared.netlist.Flat.{Flat}
use Rattle.coco_base.specs.declared.finding.Finding.{Finding}
use Rattle.coco_base.specs.declared.finding.Probe.{Probe}
use Rattle.coco_base.specs.declared.unrolled.Node.{Node}
use Rattle.coco_base.specs.declared.unrolled.Node.TheVariants.{Nothing, Label, Copy, Gate}
use Rattle.coco_base.specs.declared.unrolled.Unrolled.{Unrolled}
use Rattle.coco_model.specs.Findings.{IsSeen}
use Rattle.coco_model.specs.Reach.{Reach, Reaches}
use Rattle.coco_model.specs.Reach.Reaches.{here, through}
use Rattle.coco_model.specs.Secure.{lasting, moments}
use Rattle.coco_model.specs.UnrolledRuns.{index_of, node_at, node_part, node_row, probed_run}
use Rattle.coco_model.specs.WrittenFindings.{IsFindingValue}
use Rattle.model_laws.proofs.Lists.{Contains-flat_map, joined_of_flat_map, member_of_place, place_of_member}
use Rattle.model_laws.proofs.Windows.{lasts_at, moment_of}
use Rattle.gate_graph.proofs.Items.{item_of}
use Rattle.calm_reach.specs.CalmRows.{Calmness, AreLiveInputs, calm_of}
use Rattle.calm_reach.specs.Walks.{AreLeavesOf, LeadsTo}
use Rattle.calm_reach.specs.Walks.LeadsTo.{ends, goes}
use Rattle.calm_reach.specs.Walks.IsOnWalk.{starts}
use Rattle.calm_reach.proofs.WalkLemmas.{walked_to}
use Rattle.stable_sets.specs.Chosen.{AreAllowed}
use Rattle.stable_sets.specs.Listed.{AreListed}
use Rattle.stable_sets.specs.Reached.{AreCalmReach, AreRows, IsReachOf, TellsCalmFinding, TellsFinding}
use Rattle.stable_sets.specs.Shown.{AreSeenPairs, HasLeakingSet, IsInside, IsReachedIn, IsShown, IsShownBy, IsUnknownPair}

-- a node that is something is unknown
vary_of_something : (node : Node) → node ≢ Nothing → node_part node ≡ Vary
vary_of_something Nothing some = absurd (some refl)
vary_of_something (Label l) some = refl
vary_of_something (Copy j) some = refl
vary_of_something (Gate kind parts operands) some = refl

something_of_vary : (node : Node) → node_part node ≡ Vary → node ≢ Nothing
something_of_vary node varies e = let f : Zero ≡ Vary = ap node_part (sym e) ∙ varies in cc

-- a leaf to which a walk leads is a bit of the row
leaf_inside : (flat : Flat) (row : Calmness) (leaf bit : ℕ) → LeadsTo flat row leaf bit → leaf < length row.parts
leaf_inside flat row leaf bit leads = go (cases_lt leaf (length row.parts))
  where
    go : (leaf < length row.parts) ⊎ (length row.parts ≤ leaf) → leaf < length row.parts
    go (inl below) = below
    go (inr past) =
        let varies = (walked_to flat row bit leaf bit leads starts).1.varies in
        absurd (let f : Zero ≡ Vary = sym (get_or_past row.parts leaf Zero past) ∙ varies in cc)

module _ (flat : Flat) (u : Unrolled) (rows : List Calmness) (clock : Option ℕ) (window d : ℕ) (finding : Finding) (reach : Reach)
    (same_bits : u.bits ≡ flat.bits) (are_rows : AreRows flat u.cycles rows) (is_reach : IsReachOf flat rows reach)
    (listed : AreListed u.bits u.cycles clock d finding.probes finding.seen) where
  -- the leaves of a probe's bit
  leaves_of : (probe : Probe) → Contains finding.probes probe → (t : ℕ) (row : Calmness) → slice_get rows t ≡ Some row
      → AreLeavesOf flat row probe.bit (reach t probe.bit)
  leaves_of probe h t row at =
      is_reach t probe.bit row at (subst (λ n. probe.bit < n) same_bits (listed.probes_listed.each probe h).bit)

  seen_at : (probe : Probe) → Contains finding.probes probe → (p : Probe) (t : ℕ) → (p.cycle ≡ t) ⊎ (suc p.cycle ≡ t)
      → IsUnknownPair u p → IsReachedIn flat u.cycles window rows probe t p.bit
      → IsSeen (node_row u) reach (moments u.cycles window finding.probes) p
  seen_at probe h p t when unknown r = record {
    probe = record { bit = probe.bit; cycle = t };
    listed = Contains-flat_map (lasting u.cycles window) finding.probes probe (record { bit = probe.bit; cycle = t }) h
        (lasts_at u.cycles window probe t r.lasts.from r.lasts.within r.lasts.below);
    shows = record { reached = ((leaves_of probe h t r.row r.at).each p.bit).1 r.leads; when = when };
    unknown = vary_of_something (node_at u (index_of u p.cycle p.bit)) unknown.something;
  }

  seen_by : (p : Probe) → IsUnknownPair u p → IsShown flat u.cycles window rows finding.probes p
      → IsSeen (node_row u) reach (moments u.cycles window finding.probes) p
  seen_by p unknown s = go s.shows
    where
      go : IsShownBy flat u.cycles window rows s.probe p → IsSeen (node_row u) reach (moments u.cycles window finding.probes) p
      go (inl r) = seen_at s.probe s.listed p p.cycle (inl refl) unknown r
      go (inr r) = seen_at s.probe s.listed p (p.cycle + 1) (inr (omega arith)) unknown r

  -- a pair that is seen is shown by a probe over its window
  record IsShownAt (p : Probe) : Type 0 where
    probe : Probe
    is_listed : Contains finding.probes probe
    cycle : ℕ
    when : (p.cycle ≡ cycle) ⊎ (suc p.cycle ≡ cycle)
    reached : IsReachedIn flat u.cycles window rows probe cycle p.bit

  shown_at : (p : Probe) → IsSeen (node_row u) reach (moments u.cycles window finding.probes) p → IsShownAt p
  shown_at p s =
      let j = joined_of_flat_map (lasting u.cycles window) finding.probes s.probe s.listed in
      let m = moment_of u.cycles window j.source s.probe j.member in
      let row = item_of rows s.probe.cycle (subst (λ n. s.probe.cycle < n) (sym are_rows.as_long) m.below) in
      record {
        probe = j.source;
        is_listed = j.listed;
        cycle = s.probe.cycle;
        when = s.shows.when;
        reached = record {
          lasts = record { from = m.from; within = m.within; below = m.below };
          row = row.item;
          at = row.at;
          leads = ((leaves_of j.source j.listed s.probe.cycle row.item row.at).each p.bit).0
              (subst (λ b. Contains (reach s.probe.cycle b) p.bit) (sym m.bit) s.shows.reached);
        };
      }

  shown_by : (p : Probe) → IsShownAt p → IsShown flat u.cycles window rows finding.probes p
  shown_by p s = record { probe = s.probe; listed = s.is_listed; shows = go s.when }
    where
      go : (p.cycle ≡ s.cycle) ⊎ (suc p.cycle ≡ s.cycle) → IsShownBy flat u.cycles window rows s.probe p
      go (inl e) = inl (subst (λ t. IsReachedIn flat u.cycles window rows s.probe t p.bit) (sym e) s.reached)
      go (inr e) = inr (subst (λ t. IsReachedIn flat u.cycles window rows s.probe t p.bit) (let f : s.cycle ≡ p.cycle + 1 = omega (arith, e) in f) s.reached)

  inside_run : (p : Probe) → IsShownAt p → IsInside u p
  inside_run p s = record {
    bit =
        let inside = leaf_inside flat s.reached.row p.bit s.probe.bit s.reached.leads in
        let long = (are_rows.each s.cycle s.reached.row s.reached.at).bits in
        subst (λ n. p.bit < n) (long ∙ sym same_bits) inside;
    cycle = go s.when;
  }
    where
      go : (p.cycle ≡ s.cycle) ⊎ (suc p.cycle ≡ s.cycle) → p.cycle < u.cycles
      go (inl e) = let b = s.reached.lasts.below in omega (arith, e, b)
      go (inr e) = let b = s.reached.lasts.below in omega (arith, e, b)

  looked_at : (p : Probe) → IsSeen (node_row u) reach (moments u.cycles window finding.probes) p
      → IsUnknownPair u p × IsShown flat u.cycles window rows finding.probes p
  looked_at p s =
      let at = shown_at p s in (
        record { inside = inside_run p at; something = something_of_vary (node_at u (index_of u p.cycle p.bit)) s.unknown },
        shown_by p at,
      )

  pub finding_of : AreSeenPairs flat window rows u finding.probes finding.seen → HasLeakingSet u finding
      → IsFindingValue (probed_run u clock window reach) d finding
  finding_of seen leaking = record {
    sets = leaking.sets;
    written = record {
      candidate = record {
        some = listed.probes_listed.some;
        most = listed.probes_listed.most;
        each = listed.probes_listed.each;
        ascending = listed.probes_listed.ascending;
        in_order = listed.in_order;
        seen = λ p h. seen_by p (seen p h).0 (seen p h).1;
        selection = leaking.selection;
      };
      leaks = leaking.leaks;
    };
    set = leaking.set;
  }

  pub seen_of : IsFindingValue (probed_run u clock window reach) d finding
      → AreSeenPairs flat window rows u finding.probes finding.seen
  seen_of is p h = looked_at p (is.written.candidate.seen p h)

pub listed_of : (u : Unrolled) (clock : Option ℕ) (window d : ℕ) (finding : Finding) (reach : Reach)
    → IsFindingValue (probed_run u clock window reach) d finding → AreListed u.bits u.cycles clock d finding.probes finding.seen
listed_of u clock window d finding reach is =
    let c = is.written.candidate in
    record {
      probes_listed = record { some = c.some; most = c.most; each = c.each; ascending = c.ascending };
      in_order = c.in_order;
    }

pub allowed_of : (u : Unrolled) (clock : Option ℕ) (window d : ℕ) (finding : Finding) (reach : Reach)
    → IsFindingValue (probed_run u clock window reach) d finding → AreAllowed u.nodes finding.selection.choices
allowed_of u clock window d finding reach is =
    let s = is.written.candidate.selection in record { as_long = s.as_long; each = s.allowed }

pub leaking_of : (u : Unrolled) (clock : Option ℕ) (window d : ℕ) (finding : Finding) (reach : Reach)
    → IsFindingValue (probed_run u clock window reach) d finding → HasLeakingSet u finding
leaking_of u clock window d finding reach is = record {
  sets = is.sets;
  selection = is.written.candidate.selection;
  leaks = is.written.leaks;
  set = is.set;
}

-- walks by live inputs are those of calm rows
reaches_of : (flat : Flat) (row : Calmness) (leaf b : ℕ) → AreLiveInputs flat row → LeadsTo flat row leaf b → Reaches flat (calm_of row) leaf b
reaches_of flat row leaf b live (ends l) = here l.no_cell l.varies
reaches_of flat row leaf b live (goes b' from f rest) =
    through b f.cell f.input.place from (member_of_place flat.cells f.number f.cell f.at) f.drives f.varies
    ((live.each f.number f.cell f.at f.input.place).0 f.input.live) f.input.wire (reaches_of flat row leaf from live rest)

leads_of : (flat : Flat) (row : Calmness) (leaf b : ℕ) → AreLiveInputs flat row → Reaches flat (calm_of row) leaf b → LeadsTo flat row leaf b
leads_of flat row leaf b live (here none varies) = ends (record { no_cell = none; varies = varies })
leads_of flat row leaf b live (through b' cell place from listed drives varies is_live wire rest) =
    let p = place_of_member flat.cells cell listed in
    goes b from (record {
      number = p.place;
      cell = cell;
      at = p.at;
      drives = drives;
      varies = varies;
      input = record { place = place; live = (live.each p.place cell p.at place).1 is_live; wire = wire };
    }) (leads_of flat row leaf from live rest)

pub reach_of_calm : (flat : Flat) (rows : List Calmness) (reach : Reach) → AreCalmReach flat rows reach → IsReachOf flat rows reach
reach_of_calm flat rows reach calm t b row at below =
    let r = calm.reached t row at b below in
    let live = calm.live t row at in
    record {
      ascending = r.0;
      each = λ leaf. (
        (λ h. leads_of flat row leaf b live ((r.1 leaf).0 h)),
        (λ l. (r.1 leaf).1 (reaches_of flat row leaf b live l)),
      );
    }

-- what is seen of equal lists
pub seen_same : (flat : Flat) (window : ℕ) (u : Unrolled) (rows others : List Calmness) (probes other_probes pairs other_pairs : List Probe)
    → rows ≡ others → probes ≡ other_probes → pairs ≡ other_pairs → AreSeenPairs flat window rows u probes pairs
    → AreSeenPairs flat window others u other_probes other_pairs
seen_same flat window u rows others probes other_probes pairs other_pairs e f g seen =
    subst (λ ps. AreSeenPairs flat window others u other_probes ps) g
    (subst (λ ps. AreSeenPairs flat window others u ps pairs) f
    (subst (λ rs. AreSeenPairs flat window rs u probes pairs) e seen))

-- where all else is as in a finding, the set decides
pub leak_tells : (flat : Flat) (u : Unrolled) (rows : List Calmness) (clock : Option ℕ) (window d : ℕ) (finding : Finding) (b : Bool)
    → u.bits ≡ flat.bits → AreRows flat u.cycles rows → AreListed u.bits u.cycles clock d finding.probes finding.seen
    → AreSeenPairs flat window rows u finding.probes finding.seen → IsTrue b ↔ HasLeakingSet u finding
    → TellsFinding flat u rows clock window d finding b
leak_tells flat u rows clock window d finding b same_bits are_rows listed seen told reach is_reach = (
  (λ h. finding_of flat u rows clock window d finding reach same_bits are_rows is_reach listed seen (told.0 h)),
  (λ is. told.1 (leaking_of u clock window d finding reach is)),
)

pub calm_tells : (flat : Flat) (u : Unrolled) (rows : List Calmness) (clock : Option ℕ) (window d : ℕ) (finding : Finding) (b : Bool)
    → TellsFinding flat u rows clock window d finding b → TellsCalmFinding flat u rows clock window d finding b
calm_tells flat u rows clock window d finding b told reach calm = told reach (reach_of_calm flat rows reach calm)
