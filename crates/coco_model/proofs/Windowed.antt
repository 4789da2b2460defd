-- A probe that lasts two cycles sees one share in the first and the other in the second.
use Rattle.std.proofs.Common.{◌≡◌, ℕ, zero, suc, ◌<◌, ◌≤◌, ◌⊎◌, inl, inr, Bool, true, false, List, [], ◌∷◌, Some, refl, sym, ◌∙◌, ap, subst, arith}
use Rattle.std.specs.Prelude.{Contains, nat_eq}
use Rattle.std.proofs.Math.Path.{fun_ext}
use Rattle.std.proofs.lemmas.Bool.Decides.{nat_tests}
use Rattle.coco_base.specs.declared.text.Text.{Text}
use Rattle.coco_base.specs.declared.cell.Kind.TheVariants.{And, Or}
use Rattle.coco_base.specs.declared.cell.Part.{Part}
use Rattle.coco_base.specs.declared.cell.Part.TheVariants.{Zero, One, Vary}
use Rattle.coco_base.specs.declared.netlist.FlatCell.{FlatCell}
use Rattle.coco_base.specs.declared.netlist.Wire.TheVariants.{Const, Bit}
use Rattle.coco_base.specs.declared.setup.Start.TheVariants.{Public}
use Rattle.coco_base.specs.declared.setup.InputPlan.{InputPlan}
use Rattle.coco_base.specs.declared.finding.Probe.{Probe}
use Rattle.coco_model.specs.Cells.{xor, output_of, AllowsAll, IsForced, IsLiveInput}
use Rattle.coco_model.specs.Netlist.{IsCellBit}
use Rattle.coco_model.specs.Labels.{secret_labels}
use Rattle.coco_model.specs.Carried.{entry_of, start_state}
use Rattle.coco_model.specs.Run.{before}
use Rattle.coco_model.specs.Known.{parts, cell_parts}
use Rattle.coco_model.specs.Calm.{both}
use Rattle.coco_model.specs.Reach.{Reach, Reaches, IsReach}
use Rattle.coco_model.specs.Reach.Reaches.{here, through}
use Rattle.coco_model.specs.Secure.{IsProbe, moments}
use Rattle.coco_model.specs.Roots.{Root, IsRooted}
use Rattle.coco_model.specs.Roots.Root.{label}
use Rattle.coco_model.specs.Findings.{Labels, set_of_pairs, IsSelection, IsWhole, IsSeen, IsFinding}
use Rattle.coco_model.specs.Examples.{gate, keeper, two_selects, two_selects_setup, y_from, late_shares}
use Rattle.coco_model.proofs.Basics.{Contains-here, Contains-later, Contains-cases, Contains-none, only_member, HasMember, some_from_any}
use Rattle.coco_model.proofs.Keepers.{kept_known, both_of, before_below}

-- ---- what the gates force

and_varies : (p : Part) → IsForced And (Vary ∷ Vary ∷ []) p → p ≡ Vary
and_varies Zero f = absurd (let e = f (true ∷ true ∷ []) (tt, (tt, tt)) in cc)
and_varies One f = absurd (let e = f (false ∷ false ∷ []) (tt, (tt, tt)) in cc)
and_varies Vary f = refl

and_off : (p : Part) → IsForced And (Vary ∷ Zero ∷ []) p → p ≡ Zero
and_off Zero f = refl
and_off One f = absurd (let e = f (false ∷ false ∷ []) (tt, (refl, tt)) in cc)
and_off Vary f = absurd (f.0 off)
  where
    off : (inputs : List Bool) → AllowsAll (Vary ∷ Zero ∷ []) inputs → output_of And inputs ≡ false
    off [] h = absurd h
    off (a ∷ []) h = absurd h.1
    off (true ∷ b ∷ []) (u, (e, v)) = e
    off (false ∷ b ∷ []) (u, (e, v)) = refl
    off (a ∷ b ∷ c ∷ inputs) h = absurd h.1.1

or_first : (p : Part) → IsForced Or (Vary ∷ Zero ∷ []) p → p ≡ Vary
or_first Zero f = absurd (let e = f (true ∷ false ∷ []) (tt, (refl, tt)) in cc)
or_first One f = absurd (let e = f (false ∷ false ∷ []) (tt, (refl, tt)) in cc)
or_first Vary f = refl

or_second : (p : Part) → IsForced Or (Zero ∷ Vary ∷ []) p → p ≡ Vary
or_second Zero f = absurd (let e = f (false ∷ true ∷ []) (refl, (tt, tt)) in cc)
or_second One f = absurd (let e = f (false ∷ false ∷ []) (refl, (tt, tt)) in cc)
or_second Vary f = refl

and_live : IsLiveInput And (Vary ∷ Vary ∷ []) 0
and_live = record { varies = refl; inputs = false ∷ true ∷ []; allowed = (tt, (tt, tt)); changes = λ e. cc }

first_live : IsLiveInput Or (Vary ∷ Zero ∷ []) 0
first_live = record { varies = refl; inputs = false ∷ false ∷ []; allowed = (tt, (refl, tt)); changes = λ e. cc }

second_live : IsLiveInput Or (Zero ∷ Vary ∷ []) 1
second_live = record { varies = refl; inputs = false ∷ false ∷ []; allowed = (refl, (tt, tt)); changes = λ e. cc }

two_parts : (a b p q : Part) → a ≡ p → b ≡ q → ◌≡◌ {A = List Part} (a ∷ b ∷ []) (p ∷ q ∷ [])
two_parts a b p q e f = cc

-- ---- the circuit

module _ (name : Text) (reach : Reach) (r : IsReach (two_selects name) (two_selects_setup name) 3 reach) where
  abbrev one : FlatCell
  one = gate name And (Bit 1 ∷ Bit 3 ∷ Const false ∷ Const false ∷ []) 5

  abbrev other : FlatCell
  other = gate name And (Bit 2 ∷ Bit 4 ∷ Const false ∷ Const false ∷ []) 6

  abbrev last : FlatCell
  last = gate name Or (Bit 5 ∷ Bit 6 ∷ Const false ∷ Const false ∷ []) 7

  one_listed : Contains (two_selects name).cells one
  one_listed = Contains-here one (other ∷ last ∷ [])

  other_listed : Contains (two_selects name).cells other
  other_listed = Contains-later one other (other ∷ last ∷ []) (Contains-here other (last ∷ []))

  last_listed : Contains (two_selects name).cells last
  last_listed = Contains-later one last (other ∷ last ∷ []) (Contains-later other last (last ∷ []) (Contains-here last []))

  -- no cell drives the first five bits
  no_cell : (b : ℕ) → b < 5 → IsCellBit (two_selects name) b → ⊥
  no_cell b below h = at (some_from_any (λ (c : FlatCell). c.output ≡ b) (two_selects name).cells h)
    where
      at : HasMember (λ (c : FlatCell). c.output ≡ b) (two_selects name).cells → ⊥
      at s = first (Contains-cases one s.member (other ∷ last ∷ []) s.listed)
        where
          too_great : (d : FlatCell) → d ≡ s.member → 5 ≤ d.output → ⊥
          too_great d same ge = let f : d.output ≡ b = ap (λ (x : FlatCell). x.output) same ∙ s.holds in omega arith

          rest : (last ≡ s.member) ⊎ Contains [] s.member → ⊥
          rest (inl same) = too_great last same (omega arith)
          rest (inr none) = Contains-none s.member none

          second : (other ≡ s.member) ⊎ Contains (last ∷ []) s.member → ⊥
          second (inl same) = too_great other same (omega arith)
          second (inr i) = rest (Contains-cases last s.member [] i)

          first : (one ≡ s.member) ⊎ Contains (other ∷ last ∷ []) s.member → ⊥
          first (inl same) = too_great one same (omega arith)
          first (inr i) = second (Contains-cases other s.member (last ∷ []) i)

  share : (t : ℕ) → t < 3 → (b : ℕ) → (b ≡ 1) ⊎ (b ≡ 2) → r.row t b ≡ Vary
  share t below b (inl e) = subst (λ c. r.row t c ≡ Vary) (sym e)
      (kept_known (two_selects name) (two_selects_setup name) 3 r.row r.word r.known (keeper name 1)
      (Contains-here (keeper name 1) (keeper name 2 ∷ [])) refl Vary
      (r.known.carried.first.flops (keeper name 1) (Contains-here (keeper name 1) (keeper name 2 ∷ []))) t below)
  share t below b (inr e) = subst (λ c. r.row t c ≡ Vary) (sym e)
      (kept_known (two_selects name) (two_selects_setup name) 3 r.row r.word r.known (keeper name 2)
      (Contains-later (keeper name 1) (keeper name 2) (keeper name 2 ∷ []) (Contains-here (keeper name 2) [])) refl Vary
      (r.known.carried.first.flops (keeper name 2)
      (Contains-later (keeper name 1) (keeper name 2) (keeper name 2 ∷ []) (Contains-here (keeper name 2) []))) t below)

  abbrev s0 : InputPlan
  s0 = record { bit = 3; values = Public true ∷ Public false ∷ Public false ∷ [] }

  abbrev s1 : InputPlan
  s1 = record { bit = 4; values = Public false ∷ Public false ∷ Public true ∷ [] }

  select0 : (t : ℕ) → t < 3 → r.row t 3 ≡ start_state parts (two_selects_setup name).table t (entry_of s0.values t)
  select0 t below = (r.known.carried.given t below).inputs s0 (Contains-here s0 (s1 ∷ []))

  select1 : (t : ℕ) → t < 3 → r.row t 4 ≡ start_state parts (two_selects_setup name).table t (entry_of s1.values t)
  select1 t below = (r.known.carried.given t below).inputs s1 (Contains-later s0 s1 (s1 ∷ []) (Contains-here s1 []))

  still : (t : ℕ) → t < 3 → (b : ℕ) → b < 5 → r.calm t b ≡ both (r.row (before t) b) (r.row t b)
  still t below b low = (r.still t below).leaves b (no_cell b low)

  share_moves : (t : ℕ) → t < 3 → (b : ℕ) → b < 5 → (b ≡ 1) ⊎ (b ≡ 2) → r.calm t b ≡ Vary
  share_moves t below b low is = still t below b low
      ∙ both_of (r.row (before t) b) (r.row t b) Vary Vary (share (before t) (before_below t 3 below) b is) (share t below b is)

  -- what a gate forces of what is calm
  forced : (t : ℕ) → t < 3 → (c : FlatCell) → Contains (two_selects name).cells c → (ps : List Part)
      → cell_parts (r.calm t) c ≡ ps → IsForced c.kind ps (r.calm t c.output)
  forced t below c listed ps e =
      subst (λ qs. IsForced c.kind qs (r.calm t c.output)) e ((r.still t below).forced.cells c listed)

  -- in cycle 1 s0 changes and s1 stays 0; in cycle 2 s0 stays 0 and s1 changes
  s0_falls : r.calm 1 3 ≡ Vary
  s0_falls = still 1 (omega arith) 3 (omega arith) ∙ both_of (r.row 0 3) (r.row 1 3) One Zero (select0 0 (omega arith)) (select0 1 (omega arith))

  s1_low : r.calm 1 4 ≡ Zero
  s1_low = still 1 (omega arith) 4 (omega arith) ∙ both_of (r.row 0 4) (r.row 1 4) Zero Zero (select1 0 (omega arith)) (select1 1 (omega arith))

  s0_low : r.calm 2 3 ≡ Zero
  s0_low = still 2 (omega arith) 3 (omega arith) ∙ both_of (r.row 1 3) (r.row 2 3) Zero Zero (select0 1 (omega arith)) (select0 2 (omega arith))

  s1_rises : r.calm 2 4 ≡ Vary
  s1_rises = still 2 (omega arith) 4 (omega arith) ∙ both_of (r.row 1 4) (r.row 2 4) Zero One (select1 1 (omega arith)) (select1 2 (omega arith))

  q0_moves : (t : ℕ) → t < 3 → r.calm t 1 ≡ Vary
  q0_moves t below = share_moves t below 1 (omega arith) (inl refl)

  q1_moves : (t : ℕ) → t < 3 → r.calm t 2 ≡ Vary
  q1_moves t below = share_moves t below 2 (omega arith) (inr refl)

  -- y reaches q0 in cycle 1
  walk_one : Reaches (two_selects name) (r.calm 1) 1 7
  walk_one =
      through 7 last 0 5 last_listed refl y_moves (subst (λ ps. IsLiveInput Or ps 0) (sym at_last) first_live) refl
      (through 5 one 0 1 one_listed refl moves (subst (λ ps. IsLiveInput And ps 0) (sym at_one) and_live) refl
      (here (no_cell 1 (omega arith)) (q0_moves 1 (omega arith))))
    where
      at_one : cell_parts (r.calm 1) one ≡ Vary ∷ Vary ∷ []
      at_one = two_parts _ _ Vary Vary (q0_moves 1 (omega arith)) s0_falls

      moves : r.calm 1 5 ≡ Vary
      moves = and_varies _ (forced 1 (omega arith) one one_listed (Vary ∷ Vary ∷ []) at_one)

      off : r.calm 1 6 ≡ Zero
      off = and_off _ (forced 1 (omega arith) other other_listed (Vary ∷ Zero ∷ [])
          (two_parts _ _ Vary Zero (q1_moves 1 (omega arith)) s1_low))

      at_last : cell_parts (r.calm 1) last ≡ Vary ∷ Zero ∷ []
      at_last = two_parts _ _ Vary Zero moves off

      y_moves : r.calm 1 7 ≡ Vary
      y_moves = or_first _ (forced 1 (omega arith) last last_listed (Vary ∷ Zero ∷ []) at_last)

  -- and q1 in cycle 2
  walk_other : Reaches (two_selects name) (r.calm 2) 2 7
  walk_other =
      through 7 last 1 6 last_listed refl y_moves (subst (λ ps. IsLiveInput Or ps 1) (sym at_last) second_live) refl
      (through 6 other 0 2 other_listed refl moves (subst (λ ps. IsLiveInput And ps 0) (sym at_other) and_live) refl
      (here (no_cell 2 (omega arith)) (q1_moves 2 (omega arith))))
    where
      at_other : cell_parts (r.calm 2) other ≡ Vary ∷ Vary ∷ []
      at_other = two_parts _ _ Vary Vary (q1_moves 2 (omega arith)) s1_rises

      moves : r.calm 2 6 ≡ Vary
      moves = and_varies _ (forced 2 (omega arith) other other_listed (Vary ∷ Vary ∷ []) at_other)

      off : r.calm 2 5 ≡ Zero
      off = and_off _ (forced 2 (omega arith) one one_listed (Vary ∷ Zero ∷ [])
          (two_parts _ _ Vary Zero (q0_moves 2 (omega arith)) s0_low))

      at_last : cell_parts (r.calm 2) last ≡ Zero ∷ Vary ∷ []
      at_last = two_parts _ _ Zero Vary off moves

      y_moves : r.calm 2 7 ≡ Vary
      y_moves = or_second _ (forced 2 (omega arith) last last_listed (Zero ∷ Vary ∷ []) at_last)

  pub reaches_one : Contains (reach 1 7) 1
  reaches_one = ((r.reached 1 (omega arith) 7 (omega arith)).1 1).1 walk_one

  pub reaches_other : Contains (reach 2 7) 2
  reaches_other = ((r.reached 2 (omega arith) 7 (omega arith)).1 2).1 walk_other

-- ---- the finding

apart_zero : (l : ℕ) → nat_eq 0 (suc l) ≡ false
apart_zero l = grind (arith, nat_tests)

apart_one : (l : ℕ) → nat_eq 1 (suc (suc l)) ≡ false
apart_one l = grind (arith, nat_tests)

-- the set of labels 0 and 1
abbrev both_shares : Labels
both_shares l = xor (nat_eq 0 l) (xor (nat_eq 1 l) false)

share_in : (l : ℕ) → Contains (0 ∷ 1 ∷ []) l → both_shares l ≡ true
share_in l h = go (Contains-cases 0 l (1 ∷ []) h)
  where
    go : (0 ≡ l) ⊎ Contains (1 ∷ []) l → both_shares l ≡ true
    go (inl e) = subst (λ k. both_shares k ≡ true) e refl
    go (inr i) = only_member (λ k. both_shares k ≡ true) 1 refl l i

both_whole : (name : Text) → IsWhole (two_selects_setup name).table both_shares
both_whole name = record {
  no_mask = no_mask;
  all_or_none = λ shares h a b in_a in_b. only_member (λ ls. Contains ls a → Contains ls b → both_shares a ≡ both_shares b)
      (0 ∷ 1 ∷ []) (λ i j. share_in a i ∙ sym (share_in b j)) shares h in_a in_b;
}
  where
    no_mask : (l : ℕ) → both_shares l ≡ true
        → (shares : List ℕ) × Contains (secret_labels (two_selects_setup name).table.secrets) shares × Contains shares l
    no_mask zero e = (0 ∷ 1 ∷ [], Contains-here (0 ∷ 1 ∷ []) [], Contains-here 0 (1 ∷ []))
    no_mask (suc zero) e = (0 ∷ 1 ∷ [], Contains-here (0 ∷ 1 ∷ []) [], Contains-later 0 1 (1 ∷ []) (Contains-here 1 []))
    no_mask (suc (suc l)) e = absurd (
        let f : both_shares (suc (suc l)) ≡ false =
        ap (λ b. xor b (xor (nat_eq 1 (suc (suc l))) false)) (apart_zero (suc l)) ∙ ap (λ b. xor false (xor b false)) (apart_one l) in
        let g : ◌≡◌ {A = Bool} false true = sym f ∙ e in cc)

module _ (name : Text) (reach : Reach) (r : IsReach (two_selects name) (two_selects_setup name) 3 reach) (root : ℕ → ℕ → Root)
    (rooted : ℕ → ℕ → ℕ → Root) (is : IsRooted (two_selects name) (two_selects_setup name) 3 r.row root rooted)
    (set_of : Root → Labels) (selection : IsSelection (two_selects name) 3 r.row root set_of) where
  q0_listed : Contains (two_selects name).flops (keeper name 1)
  q0_listed = Contains-here (keeper name 1) (keeper name 2 ∷ [])

  q1_listed : Contains (two_selects name).flops (keeper name 2)
  q1_listed = Contains-later (keeper name 1) (keeper name 2) (keeper name 2 ∷ []) (Contains-here (keeper name 2) [])

  root_one : root 1 1 ≡ label 0
  root_one = (is.carried.next 0 (omega arith)).flops (keeper name 1) q0_listed ∙ is.carried.first.flops (keeper name 1) q0_listed

  root_other : root 2 2 ≡ label 1
  root_other =
      (is.carried.next 1 (omega arith)).flops (keeper name 2) q1_listed
      ∙ (is.carried.next 0 (omega arith)).flops (keeper name 2) q1_listed
      ∙ is.carried.first.flops (keeper name 2) q1_listed

  same_set : (l : ℕ) → set_of_pairs root set_of late_shares l ≡ both_shares l
  same_set l =
      ap (λ r. xor (set_of r l) (xor (set_of (root 2 2) l) false)) root_one
      ∙ ap (λ r. xor (set_of (label 0) l) (xor (set_of r l) false)) root_other
      ∙ ap (λ b. xor b (xor (set_of (label 1) l) false)) (selection.single 0 l)
      ∙ ap (λ b. xor (nat_eq 0 l) (xor b false)) (selection.single 1 l)

  abbrev first_pair : Probe
  first_pair = record { bit = 1; cycle = 1 }

  abbrev second_pair : Probe
  second_pair = record { bit = 2; cycle = 2 }

  seen : (u : Probe) → Contains late_shares u → IsSeen r.row reach (moments 3 2 (y_from 1 ∷ [])) u
  seen u h = go (Contains-cases first_pair u (second_pair ∷ []) h)
    where
      go : (first_pair ≡ u) ⊎ Contains (second_pair ∷ []) u → IsSeen r.row reach (y_from 1 ∷ y_from 2 ∷ []) u
      go (inl e) = subst (IsSeen r.row reach (y_from 1 ∷ y_from 2 ∷ [])) e (record {
        probe = y_from 1;
        listed = Contains-here (y_from 1) (y_from 2 ∷ []);
        shows = record { reached = reaches_one name reach r; when = inl refl };
        unknown = share name reach r 1 (omega arith) 1 (inl refl);
      })
      go (inr i) = only_member (IsSeen r.row reach (y_from 1 ∷ y_from 2 ∷ [])) second_pair (record {
        probe = y_from 2;
        listed = Contains-later (y_from 1) (y_from 2) (y_from 2 ∷ []) (Contains-here (y_from 2) []);
        shows = record { reached = reaches_other name reach r; when = inl refl };
        unknown = share name reach r 2 (omega arith) 2 (inr refl);
      }) u i

  pub finds_late_shares : IsFinding (two_selects name) (two_selects_setup name) 3 2 1 r.row reach root (y_from 1 ∷ []) late_shares set_of
  finds_late_shares = record {
    some = omega arith;
    most = omega arith;
    each = only_member (IsProbe 8 (Some 0) 3) (y_from 1) (record { bit = omega arith; no_clock = λ e. cc; cycle = omega arith });
    different = ((λ h. Contains-none (y_from 1) h), tt);
    once = (
      (λ h. only_member (λ (u : Probe). u ≡ first_pair → ⊥) second_pair
          (λ e. let f : ◌≡◌ {A = ℕ} 2 1 = ap (λ (p : Probe). p.bit) e in omega arith) first_pair h refl),
      ((λ h. Contains-none second_pair h), tt),
    );
    seen = seen;
    selection = selection;
    member = 0;
    not_empty = same_set 0;
    whole = subst (IsWhole (two_selects_setup name).table) (fun_ext (λ l. sym (same_set l))) (both_whole name);
  }
