-- A cycle is good or has one first fault.
use Rattle.std.proofs.Common.{◌≡◌, ◌≢◌, ℕ, zero, suc, ◌<◌, ◌≤◌, ◌⊎◌, inl, inr, List, [], ◌∷◌, refl, sym, ◌∙◌, ap, subst, arith}
use Rattle.std.specs.Prelude.{Contains, slice_get, Option, Some, None}
use Rattle.std.proofs.lemmas.Bool.{cases_lt}
use Rattle.coco_base.specs.declared.cell.Part.TheVariants.{One, Vary}
use Rattle.coco_base.specs.declared.netlist.Flat.{Flat}
use Rattle.coco_base.specs.declared.netlist.FlatFlop.{FlatFlop}
use Rattle.coco_base.specs.declared.netlist.Wire.{Wire}
use Rattle.coco_base.specs.declared.setup.MemPlan.{MemPlan}
use Rattle.coco_base.specs.declared.setup.When.{When}
use Rattle.coco_base.specs.declared.setup.When.TheVariants.{Always, Requested, Written}
use Rattle.coco_base.specs.declared.setup.ControlPlan.{ControlPlan}
use Rattle.coco_base.specs.declared.setup.Setup.{Setup}
use Rattle.coco_model.specs.Carried.{wire_or_off, number_on}
use Rattle.coco_model.specs.Known.{Row, part_of, wire_part, ones}
use Rattle.coco_model.specs.Controls.{Applies, AreControlsKnown, IsUnknownControl, IsResetActive, IsInRegion, IsOutside}
use Rattle.coco_model.specs.Stepped.{IsFirstWith, IsControlFault, Outcome, IsOutcome}
use Rattle.coco_model.specs.Stepped.Outcome.{good, control, reset, outside}
use Rattle.coco_model.proofs.Basics.{Contains-cases, Contains-none}
use Rattle.model_laws.proofs.Lists.{member_of_place}
use Rattle.model_laws.proofs.Unique.{Part_same}
use Rattle.model_laws.specs.RunLaws.{HasOneOutcome, GoodCycleLaw, OneOutcomeLaw}

-- ---- the first of a kind

record Found {X : Type 0} (P : X → Type 0) (xs : List X) : Type 0 where
  place : ℕ
  first : IsFirstWith P xs place

first_or_none : {X : Type 0} (P : X → Type 0) → ((x : X) → P x ⊎ (P x → ⊥)) → (xs : List X)
    → Found P xs ⊎ ((x : X) → Contains xs x → P x → ⊥)
first_or_none P decide [] = inr (λ x h p. Contains-none x h)
first_or_none {X} P decide (x ∷ xs) = go (decide x) (first_or_none P decide xs)
  where
    go : P x ⊎ (P x → ⊥) → Found P xs ⊎ ((y : X) → Contains xs y → P y → ⊥)
        → Found P (x ∷ xs) ⊎ ((y : X) → Contains (x ∷ xs) y → P y → ⊥)
    go (inl p) rest = inl (record {
      place = 0;
      first = record { member = x; at = refl; holds = p; none_before = λ k y lt e q. absurd (omega arith) };
    })
    go (inr n) (inl f) = inl (record {
      place = suc f.place;
      first = record { member = f.first.member; at = f.first.at; holds = f.first.holds; none_before = earlier };
    })
      where
        earlier : (k : ℕ) (y : X) → k < suc f.place → slice_get (x ∷ xs) k ≡ Some y → P y → ⊥
        earlier zero y lt e p = n (subst P (let same : y ≡ x = cc in same) p)
        earlier (suc k) y lt e p = f.first.none_before k y (omega arith) e p
    go (inr n) (inr none) = inr (λ y h p. later y p (Contains-cases x y xs h))
      where
        later : (y : X) → P y → (x ≡ y) ⊎ Contains xs y → ⊥
        later y p (inl e) = n (subst P (sym e) p)
        later y p (inr h) = none y h p

first_one : {X : Type 0} (P : X → Type 0) (xs : List X) (i j : ℕ) → IsFirstWith P xs i → IsFirstWith P xs j → i ≡ j
first_one P xs i j f g = go (cases_lt i j) (cases_lt j i)
  where
    go : (i < j) ⊎ (j ≤ i) → (j < i) ⊎ (i ≤ j) → i ≡ j
    go (inl lt) other = absurd (g.none_before i f.member lt f.at f.holds)
    go (inr le) (inl lt) = absurd (f.none_before j g.member lt g.at g.holds)
    go (inr le) (inr ge) = omega arith

none_with : {X : Type 0} (P : X → Type 0) (xs : List X) (i : ℕ) → ((x : X) → Contains xs x → P x → ⊥) → IsFirstWith P xs i → ⊥
none_with P xs i none f = none f.member (member_of_place xs i f.member f.at) f.holds

-- ---- what can be told of a cycle

applies_or_not : (setup : Setup) (row : Row) (when : When) → Applies setup row when ⊎ (Applies setup row when → ⊥)
applies_or_not setup row Always = inl tt
applies_or_not setup row (Requested i) = go (slice_get setup.memories i) refl
  where
    go : (o : Option MemPlan) → slice_get setup.memories i ≡ o
        → Applies setup row (Requested i) ⊎ (Applies setup row (Requested i) → ⊥)
    go None e = inr (λ a. let f = a.1 in cc)
    go (Some mem) e = told (Part_same (wire_part row mem.request) One)
      where
        told : (wire_part row mem.request ≡ One) ⊎ (wire_part row mem.request ≢ One)
            → Applies setup row (Requested i) ⊎ (Applies setup row (Requested i) → ⊥)
        told (inl one) = inl (mem, e, one)
        told (inr n) = inr (λ a. n (subst (λ (m : MemPlan). wire_part row m.request ≡ One)
            (let f = a.1 in let same : a.0 ≡ mem = cc in same) a.2))
applies_or_not setup row (Written i) = go (slice_get setup.memories i) refl
  where
    go : (o : Option MemPlan) → slice_get setup.memories i ≡ o
        → Applies setup row (Written i) ⊎ (Applies setup row (Written i) → ⊥)
    go None e = inr (λ a. let f = a.1 in cc)
    go (Some mem) e = told (Part_same (wire_part row mem.request) One) (Part_same (wire_part row (wire_or_off mem.write)) One)
      where
        same_port : (a : Applies setup row (Written i)) → a.0 ≡ mem
        same_port a = let f = a.1 in cc

        told : (wire_part row mem.request ≡ One) ⊎ (wire_part row mem.request ≢ One)
            → (wire_part row (wire_or_off mem.write) ≡ One) ⊎ (wire_part row (wire_or_off mem.write) ≢ One)
            → Applies setup row (Written i) ⊎ (Applies setup row (Written i) → ⊥)
        told (inl one) (inl two) = inl (mem, e, one, two)
        told (inl one) (inr n) =
            inr (λ a. n (subst (λ (m : MemPlan). wire_part row (wire_or_off m.write) ≡ One) (same_port a) a.3))
        told (inr n) other = inr (λ a. n (subst (λ (m : MemPlan). wire_part row m.request ≡ One) (same_port a) a.2))

unknown_or_not : (setup : Setup) (row : Row) (c : ControlPlan)
    → IsUnknownControl setup row c ⊎ (IsUnknownControl setup row c → ⊥)
unknown_or_not setup row c = go (applies_or_not setup row c.when) (Part_same (wire_part row c.wire) Vary)
  where
    go : Applies setup row c.when ⊎ (Applies setup row c.when → ⊥)
        → (wire_part row c.wire ≡ Vary) ⊎ (wire_part row c.wire ≢ Vary)
        → IsUnknownControl setup row c ⊎ (IsUnknownControl setup row c → ⊥)
    go (inl a) (inl e) = inl (record { applies = a; unknown = e })
    go (inl a) (inr n) = inr (λ u. n u.unknown)
    go (inr n) other = inr (λ u. n u.applies)

active_or_not : (row : Row) (f : FlatFlop) → IsResetActive row f ⊎ (IsResetActive row f → ⊥)
active_or_not row f = go f.reset refl
  where
    go : (o : Option Wire) → f.reset ≡ o → IsResetActive row f ⊎ (IsResetActive row f → ⊥)
    go None e = inr (λ a. let g = a.reset in cc)
    go (Some w) e = told (Part_same (wire_part row w) (part_of f.level))
      where
        told : (wire_part row w ≡ part_of f.level) ⊎ (wire_part row w ≢ part_of f.level)
            → IsResetActive row f ⊎ (IsResetActive row f → ⊥)
        told (inl active) = inl (record { wire = w; reset = e; active = active })
        told (inr n) = inr (λ a. n (subst (λ x. wire_part row x ≡ part_of f.level)
            (let g = a.reset in let same : a.wire ≡ w = cc in same) a.active))

region_or_not : (address : ℕ) → IsInRegion address ⊎ (IsInRegion address → ⊥)
region_or_not address = go (cases_lt address 0x4000) (cases_lt address 0x10000) (cases_lt address 0x11000)
  where
    go : (address < 0x4000) ⊎ (0x4000 ≤ address) → (address < 0x10000) ⊎ (0x10000 ≤ address)
        → (address < 0x11000) ⊎ (0x11000 ≤ address) → IsInRegion address ⊎ (IsInRegion address → ⊥)
    go (inl text) low high = inl (inl text)
    go (inr past) (inr data_from) (inl data_to) = inl (inr (data_from, data_to))
    go (inr past) (inl low) high = inr none
      where
        none : IsInRegion address → ⊥
        none (inl h) = omega arith
        none (inr h) = let g = h.0 in omega arith
    go (inr past) (inr data_from) (inr high) = inr none
      where
        none : IsInRegion address → ⊥
        none (inl h) = omega arith
        none (inr h) = let g = h.1 in omega arith

outside_or_not : (row : Row) (mem : MemPlan) → IsOutside row mem ⊎ (IsOutside row mem → ⊥)
outside_or_not row mem = go (Part_same (wire_part row mem.request) One) (region_or_not (number_on (ones row) mem.address))
  where
    go : (wire_part row mem.request ≡ One) ⊎ (wire_part row mem.request ≢ One)
        → IsInRegion (number_on (ones row) mem.address) ⊎ (IsInRegion (number_on (ones row) mem.address) → ⊥)
        → IsOutside row mem ⊎ (IsOutside row mem → ⊥)
    go (inl one) (inr out) = inl (record { request = one; outside = out })
    go (inl one) (inl in_it) = inr (λ o. o.outside in_it)
    go (inr n) other = inr (λ o. n o.request)

-- ---- the outcome

module _ (flat : Flat) (setup : Setup) (row : Row) where
  -- where the controls are known none is at fault
  no_control : AreControlsKnown setup row → (number : ℕ) → IsControlFault setup row number → ⊥
  no_control known number f =
      known.each f.member (member_of_place setup.controls number f.member f.at) f.holds.applies f.holds.unknown

  pub one_outcome : (o p : Outcome) → IsOutcome flat setup row o → IsOutcome flat setup row p → p ≡ o
  one_outcome good good is other = refl
  one_outcome good (control n) is other = absurd (no_control is.controls n other)
  one_outcome good (reset n) is other = absurd (none_with (IsResetActive row) flat.flops n is.resets other.first)
  one_outcome good (outside a) is other = absurd (none_with (IsOutside row) setup.memories other.place is.inside other.first)
  one_outcome (control n) good is other = absurd (no_control other.controls n is)
  one_outcome (control n) (control m) is other = ap control (first_one (IsUnknownControl setup row) setup.controls m n other is)
  one_outcome (control n) (reset m) is other = absurd (no_control other.controls n is)
  one_outcome (control n) (outside a) is other = absurd (no_control other.controls n is)
  one_outcome (reset n) good is other = absurd (none_with (IsResetActive row) flat.flops n other.resets is.first)
  one_outcome (reset n) (control m) is other = absurd (no_control is.controls m other)
  one_outcome (reset n) (reset m) is other = ap reset (first_one (IsResetActive row) flat.flops m n other.first is.first)
  one_outcome (reset n) (outside a) is other = absurd (none_with (IsResetActive row) flat.flops n other.resets is.first)
  one_outcome (outside a) good is other = absurd (none_with (IsOutside row) setup.memories is.place other.inside is.first)
  one_outcome (outside a) (control m) is other = absurd (no_control is.controls m other)
  one_outcome (outside a) (reset m) is other = absurd (none_with (IsResetActive row) flat.flops m is.resets other.first)
  one_outcome (outside a) (outside b) is other =
      let place : other.place ≡ is.place = first_one (IsOutside row) setup.memories other.place is.place other.first is.first in
      let at : Some other.first.member ≡ Some is.first.member =
      sym other.first.at ∙ ap (slice_get setup.memories) place ∙ is.first.at in
      let same : other.first.member ≡ is.first.member = cc in
      ap outside (other.asked ∙ ap (λ (m : MemPlan). number_on (ones row) m.address) same ∙ sym is.asked)

  record Outcomes : Type 0 where
    outcome : Outcome
    is : IsOutcome flat setup row outcome

  some_outcome : Outcomes
  some_outcome = at_controls (first_or_none (IsUnknownControl setup row) (unknown_or_not setup row) setup.controls)
    where
      at_memories : AreControlsKnown setup row → ((f : FlatFlop) → Contains flat.flops f → IsResetActive row f → ⊥)
          → Found (IsOutside row) setup.memories ⊎ ((m : MemPlan) → Contains setup.memories m → IsOutside row m → ⊥) → Outcomes
      at_memories known none (inl f) = record {
        outcome = outside (number_on (ones row) f.first.member.address);
        is = record { controls = known; resets = none; place = f.place; first = f.first; asked = refl };
      }
      at_memories known none (inr inside) = record {
        outcome = good;
        is = record { controls = known; resets = none; inside = inside };
      }

      at_resets : AreControlsKnown setup row
          → Found (IsResetActive row) flat.flops ⊎ ((f : FlatFlop) → Contains flat.flops f → IsResetActive row f → ⊥) → Outcomes
      at_resets known (inl f) = record { outcome = reset f.place; is = record { controls = known; first = f.first } }
      at_resets known (inr none) =
          at_memories known none (first_or_none (IsOutside row) (outside_or_not row) setup.memories)

      at_controls : Found (IsUnknownControl setup row) setup.controls
          ⊎ ((c : ControlPlan) → Contains setup.controls c → IsUnknownControl setup row c → ⊥) → Outcomes
      at_controls (inl f) = record { outcome = control f.place; is = f.first }
      at_controls (inr none) =
          at_resets (record { each = λ c h a e. none c h (record { applies = a; unknown = e }) })
          (first_or_none (IsResetActive row) (active_or_not row) flat.flops)

  pub has_one_outcome : HasOneOutcome flat setup row
  has_one_outcome = record {
    outcome = some_outcome.outcome;
    is = some_outcome.is;
    one = λ other is. one_outcome some_outcome.outcome other some_outcome.is is;
  }

pub good_cycle_law : GoodCycleLaw
unfolding GoodCycleLaw
good_cycle_law flat setup row is = record {
  no_control = no_control flat setup row is.controls;
  no_reset = λ flop f. none_with (IsResetActive row) flat.flops flop is.resets f.first;
  no_address = λ address f. none_with (IsOutside row) setup.memories f.place is.inside f.first;
}

pub one_outcome_law : OneOutcomeLaw
unfolding OneOutcomeLaw
one_outcome_law flat setup row = has_one_outcome flat setup row
