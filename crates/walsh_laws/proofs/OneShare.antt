-- A register with one of the two shares of a secret is secure.
use Rattle.std.proofs.Common.{◌≡◌, ◌≢◌, ℕ, zero, suc, ◌<◌, ◌⊎◌, inl, inr, true, false, List, [], ◌∷◌, Some, refl, sym, ◌∙◌, ap, subst, arith, lit≤}
use Rattle.std.specs.Prelude.{Contains}
use Rattle.std.proofs.lemmas.Bool.{cases_eq, false≢true}
use Rattle.coco_base.specs.declared.text.Text.{Text}
use Rattle.coco_base.specs.declared.cell.Part.TheVariants.{Zero, Vary}
use Rattle.coco_base.specs.declared.netlist.FlatCell.{FlatCell}
use Rattle.coco_base.specs.declared.netlist.FlatFlop.{FlatFlop}
use Rattle.coco_base.specs.declared.netlist.FlatPort.{FlatPort}
use Rattle.coco_base.specs.declared.netlist.Wire.{Wire}
use Rattle.coco_base.specs.declared.netlist.Wire.TheVariants.{Bit}
use Rattle.coco_base.specs.declared.labels.SecretPlan.{SecretPlan}
use Rattle.coco_base.specs.declared.setup.Start.{Start}
use Rattle.coco_base.specs.declared.setup.Start.TheVariants.{Public, Label}
use Rattle.coco_base.specs.declared.finding.Probe.{Probe}
use Rattle.coco_model.specs.Netlist.{IsUndriven, IsRanked, HasOneDriver, IsInRange, IsWireBelow}
use Rattle.coco_model.specs.Labels.{IsLabelTable, secret_labels}
use Rattle.coco_model.specs.Carried.{IsLabelled}
use Rattle.coco_model.specs.Setups.{IsClock, IsBoundTo}
use Rattle.coco_model.specs.Secure.{IsSecure, moments}
use Rattle.coco_model.specs.Roots.Root.{label}
use Rattle.coco_model.specs.Findings.{HasFinding}
use Rattle.coco_model.specs.Examples.{input_port, keeper, one_register, one_secret}
use Rattle.coco_model.proofs.Basics.{Contains-here, Contains-later, Contains-cases, Contains-none, only_member, some_from_any}
use Rattle.model_laws.proofs.Windows.{moments-probes}
use Rattle.model_laws.proofs.Meanings.{meaning_law}
use Rattle.coco_model.specs.Meaning.{HasMeaning}
use Rattle.model_laws.specs.Laws.{MeaningLaw}
use Rattle.walsh_laws.specs.Security.{NoFindingLaw}
use Rattle.walsh_laws.specs.Examples.{one_share_setup}
use Rattle.walsh_laws.proofs.NoFinding.{no_finding_law}
use Rattle.walsh_laws.proofs.RunCounting.{seen_cycle}
use Rattle.walsh_laws.proofs.Cover.{odd_member}

number_apart : (a b : ℕ) → a ≢ b → Contains (a ∷ []) b → ⊥
number_apart a b n h = n (only_member (λ c. a ≡ c) a refl b h)

bit_apart : (a b : ℕ) → a ≢ b → Bit a ≡ Bit b → ⊥
bit_apart a b n e = n (let f : a ≡ b = cc in f)

ranked : (name : Text) → IsRanked (one_register name) (λ b. b)
ranked name = record { cells = λ c h. absurd (Contains-none c h) }

driven : (name : Text) → HasOneDriver (one_register name)
driven name = record { once = ((λ h. number_apart 1 0 (λ e. omega arith) h), ((λ h. Contains-none 1 h), tt)) }

range : (name : Text) → IsInRange (one_register name)
range name = record {
  outputs = λ c h. absurd (Contains-none c h);
  inputs = λ c h. absurd (Contains-none c h);
  flops = only_member (λ (f : FlatFlop). f.output < 2) (keeper name 1) (lit≤ tt);
  next = only_member (λ (f : FlatFlop). IsWireBelow 2 f.next) (keeper name 1) (lit≤ tt);
  clocks = only_member (λ (f : FlatFlop). IsWireBelow 2 f.clock) (keeper name 1) (lit≤ tt);
  resets = only_member (λ (f : FlatFlop). (w : Wire) → f.reset ≡ Some w → IsWireBelow 2 w) (keeper name 1) (λ w e. absurd cc);
  ports = only_member (λ (p : FlatPort). (w : Wire) → Contains p.wires w → IsWireBelow 2 w) (input_port name 0)
      (only_member (IsWireBelow 2) (Bit 0) (lit≤ tt));
  nets = λ n h. absurd (Contains-none n h);
}

table : (name : Text) → IsLabelTable (one_secret name 2)
table name = record {
  wide = only_member (λ (s : SecretPlan). 0 < s.width) _ (lit≤ tt);
  shared = only_member (λ (s : SecretPlan). 0 < s.shares) _ (lit≤ tt);
  mask_wide = λ m h. absurd (Contains-none m h);
  few = lit≤ tt;
  once = ((λ h. number_apart 1 0 (λ e. omega arith) h), ((λ h. Contains-none 1 h), tt));
  each = λ l. (below l, listed l);
  fresh_once = tt;
  fresh_each = λ l. ((λ h. absurd (Contains-none l h)), (λ h. absurd (omega arith)));
}
  where
    below : (l : ℕ) → Contains (0 ∷ 1 ∷ []) l → l < 2
    below l h = go (Contains-cases 0 l (1 ∷ []) h)
      where
        go : (0 ≡ l) ⊎ Contains (1 ∷ []) l → l < 2
        go (inl e) = omega arith
        go (inr i) = only_member (λ k. k < 2) 1 (lit≤ tt) l i

    listed : (l : ℕ) → l < 2 → Contains (0 ∷ 1 ∷ []) l
    listed zero h = Contains-here 0 (1 ∷ [])
    listed (suc zero) h = Contains-later 0 1 (1 ∷ []) (Contains-here 1 [])
    listed (suc (suc l)) h = absurd (omega arith)

clock : (name : Text) (b : ℕ) → Some 0 ≡ Some b → IsClock (one_register name) b
clock name b e = subst (IsClock (one_register name)) (let f : 0 ≡ b = cc in f) (record {
  input = Contains-here 0 [];
  no_cell = λ c h. absurd (Contains-none c h);
  no_next = only_member (λ (f : FlatFlop). f.next ≡ Bit 0 → ⊥) (keeper name 1) (bit_apart 1 0 (λ e. omega arith));
  no_reset = only_member (λ (f : FlatFlop). f.reset ≡ Some (Bit 0) → ⊥) (keeper name 1) (λ k. cc);
})

bound_to : (name : Text) → IsBoundTo (one_register name) (one_share_setup name)
bound_to name = record {
  table = table name;
  fresh_labels = lit≤ tt;
  starts = refl;
  labels = λ s h. start s (Contains-cases (Public false) s (Label 0 ∷ []) h);
  input_labels = λ p h. absurd (Contains-none p h);
  word_labels = λ w h. absurd (Contains-none w h);
  first_values = λ p h. absurd (Contains-none p h);
  some_values = λ p h. absurd (Contains-none p h);
  echoes = λ e h. absurd (Contains-none e h);
  answers = λ mem h. absurd (Contains-none mem h);
  sources = λ e h. absurd (Contains-none e h);
  memories = λ mem h. absurd (Contains-none mem h);
  one_writer = λ i j one other e f. absurd cc;
  words = λ w h. absurd (Contains-none w h);
  apart = tt;
  leaves = λ leaf h. absurd (Contains-none leaf h);
  leaves_apart = tt;
  pc = lit≤ tt;
  pc_below = λ w h. absurd (Contains-none w h);
  controls = record {
    each = λ i mem e. absurd cc;
    pc = λ w h. absurd (Contains-none w h);
    resets = only_member (λ (f : FlatFlop). (w : Wire) → f.reset ≡ Some w → _) (keeper name 1) (λ w e. absurd cc);
  };
  controls_below = λ c h. absurd (Contains-none c h);
  few_controls = lit≤ tt;
  controls_when = λ c h. absurd (Contains-none c h);
  clock = clock name;
  bound = record { each = λ b h. h; only = λ b h. h; once = ((λ h. Contains-none 0 h), tt) };
}
  where
    start : (s : Start) → (Public false ≡ s) ⊎ Contains (Label 0 ∷ []) s → IsLabelled (one_secret name 2) s
    start s (inl e) = subst (IsLabelled (one_secret name 2)) e tt
    start s (inr i) = only_member (IsLabelled (one_secret name 2)) (Label 0) (lit≤ tt) s i

-- label 1 is in no set of what is shown
no_finding : (name : Text) (window d : ℕ) → HasFinding (one_register name) (one_share_setup name) 1 window d → ⊥
no_finding name window d h = share (h.finding.whole.no_mask h.finding.member h.finding.not_empty)
  where
    only_register : (b : ℕ) → h.row 0 b ≡ Vary → b ≡ 1
    only_register b e = go (cases_eq b 1) (cases_eq b 0)
      where
        go : (b ≡ 1) ⊎ (b ≢ 1) → (b ≡ 0) ⊎ (b ≢ 0) → b ≡ 1
        go (inl one) other = one
        go (inr n) (inl z) =
            absurd (let k : h.row 0 b ≡ Zero = (h.known.carried.given 0 (lit≤ tt)).clock b (ap Some (sym z)) in cc)
        go (inr n) (inr m) = absurd (let k : h.row 0 b ≡ Zero = (h.known.carried.given 0 (lit≤ tt)).undriven b undriven in cc)
          where
            undriven : IsUndriven (one_register name) b
            undriven = record {
              no_input = λ i. m (sym (only_member (λ c. 0 ≡ c) 0 refl b i));
              no_flop = λ i. let s = some_from_any (λ (f : FlatFlop). f.output ≡ b) (one_register name).flops i in
                  n (sym (only_member (λ (f : FlatFlop). 1 ≡ f.output) (keeper name 1) refl s.member s.listed ∙ s.holds));
              no_cell = λ i. let s = some_from_any (λ (c : FlatCell). c.output ≡ b) (one_register name).cells i in
                  Contains-none s.member s.listed;
            }

    root_is : h.root 0 1 ≡ label 0
    root_is = h.rooted.carried.first.flops (keeper name 1) (Contains-here (keeper name 1) [])

    pair : (u : Probe) × Contains h.pairs u × (h.set_of (h.root u.cycle u.bit) 1 ≡ true) → ⊥
    pair (u, listed, has) =
        let s = h.finding.seen u listed in
        let below : u.cycle < 1 = seen_cycle (one_register name) (one_share_setup name) 1 h.row h.reach (moments 1 window h.probes)
        (moments-probes 2 (Some 0) 1 window h.probes h.finding.each) u s in
        let now : u.cycle ≡ 0 = omega arith in
        let bit : u.bit ≡ 1 = only_register u.bit (ap (λ t. h.row t u.bit) (sym now) ∙ s.unknown) in
        false≢true (sym (h.finding.selection.single 0 1)
        ∙ ap (λ r. h.set_of r 1) (sym (ap (λ t. h.root t u.bit) now ∙ ap (h.root 0) bit ∙ root_is)) ∙ has)

    share : (shares : List ℕ) × Contains (secret_labels (one_secret name 2).secrets) shares × Contains shares h.finding.member → ⊥
    share (shares, listed, member) =
        pair (odd_member (λ (u : Probe). h.set_of (h.root u.cycle u.bit) 1) h.pairs
        (h.finding.whole.all_or_none shares listed 1 h.finding.member
        (only_member (λ ks. Contains ks 1) (0 ∷ 1 ∷ []) (Contains-later 0 1 (1 ∷ []) (Contains-here 1 [])) shares listed) member
        ∙ h.finding.not_empty))

pub one_share : (name : Text) (window d : ℕ) → IsSecure (one_register name) (one_share_setup name) 1 window d
unfolding MeaningLaw NoFindingLaw
one_share name window d = go (meaning_law (one_register name) (one_share_setup name) 1 (λ b. b) (ranked name) (bound_to name).bound (driven name)
    (range name))
  where
    go : HasMeaning (one_register name) (one_share_setup name) 1 → IsSecure (one_register name) (one_share_setup name) 1 window d
    go m = no_finding_law (one_register name) (one_share_setup name) 1
        (record {
          rank = λ b. b;
          row = m.row;
          word = m.word;
          is = record {
            ranked = ranked name;
            driven = driven name;
            range = range name;
            bound_to = bound_to name;
            known = m.known;
            controls = λ t below. record { each = λ c h. absurd (Contains-none c h) };
          };
        }) window d (no_finding name window d)
