-- Where the controls are known, the memory ports do in every run what is known of them.
use Rattle.std.proofs.Common.{◌≡◌, ◌≢◌, ℕ, ◌+◌, ◌*◌, ◌/◌, ◌<◌, ◌≤◌, ◌⊎◌, inl, inr, Bool, true, false, cond, not, ◌&&◌, nat_eq, List, [], ◌∷◌, length, get_or, refl, sym, ◌∙◌, ap, subst}
use Rattle.std.specs.Prelude.{Contains, Option, Some, None}
use Rattle.std.proofs.lemmas.Bool.{cases_lt}
use Rattle.std.proofs.lemmas.List.{get_or_past}
use Rattle.std.proofs.lemmas.List.Elements.{Contains-get_or}
use Rattle.coco_base.specs.declared.cell.Part.{Part}
use Rattle.coco_base.specs.declared.cell.Part.TheVariants.{Zero, One, Vary}
use Rattle.coco_base.specs.declared.netlist.Flat.{Flat}
use Rattle.coco_base.specs.declared.netlist.Wire.{Wire}
use Rattle.coco_base.specs.declared.netlist.Wire.TheVariants.{Const, Bit}
use Rattle.coco_base.specs.declared.setup.MemPlan.{MemPlan}
use Rattle.coco_base.specs.declared.setup.When.{When}
use Rattle.coco_base.specs.declared.setup.When.TheVariants.{Always, Requested, Written}
use Rattle.coco_base.specs.declared.setup.ControlPlan.{ControlPlan}
use Rattle.coco_base.specs.declared.setup.Setup.{Setup}
use Rattle.coco_model.specs.Cells.{Allows}
use Rattle.coco_model.specs.Netlist.{Valuation, wire_value}
use Rattle.coco_model.specs.Carried.{wire_or_off, number_on, word_address, is_write}
use Rattle.coco_model.specs.Known.{Row, wire_part, is_one, ones}
use Rattle.coco_model.specs.Controls.{Applies, AreControlsKnown, IsControl, HasControlsOf, HasControls}
use Rattle.coco_model.proofs.Basics.{Contains-here, Contains-later, some_from_any}
use Rattle.model_laws.proofs.Lists.{IsPlace, place_of_member}
use Rattle.model_laws.proofs.Forced.{wire-allows}
use Rattle.model_laws.specs.Laws.{AreSameRequests}

-- a known wire has the value that is known
pub known_wire : (row : Row) (v : Valuation) (w : Wire) → Allows (wire_part row w) (wire_value v w) → wire_part row w ≢ Vary
    → wire_value (ones row) w ≡ wire_value v w
known_wire row v (Const b) allows known = refl
known_wire row v (Bit n) allows known = go (row n) (v n) allows known
  where
    go : (p : Part) (b : Bool) → Allows p b → p ≢ Vary → is_one p ≡ b
    go Zero b allows known = sym allows
    go One b allows known = sym allows
    go Vary b allows known = absurd (known refl)

-- a known wire that is 1 is known as 1
pub known_one : (row : Row) (v : Valuation) (w : Wire) → Allows (wire_part row w) (wire_value v w) → wire_part row w ≢ Vary
    → wire_value v w ≡ true → wire_part row w ≡ One
known_one row v w allows known is = go (wire_part row w) (wire_value v w) allows known is
  where
    go : (p : Part) (b : Bool) → Allows p b → p ≢ Vary → b ≡ true → p ≡ One
    go One b allows known e = refl
    go Zero b allows known e = absurd cc
    go Vary b allows known e = absurd (known refl)

control_known : (setup : Setup) (row : Row) → AreControlsKnown setup row → (w : Wire) (when : When) → IsControl setup w when
    → Applies setup row when → wire_part row w ≢ Vary
control_known setup row known w when control applies =
    let s = some_from_any (λ (c : ControlPlan). (c.wire ≡ w) × (c.when ≡ when)) setup.controls control in
    subst (λ x. wire_part row x ≢ Vary) s.holds.0 (known.each s.member s.listed (subst (Applies setup row) (sym s.holds.1) applies))

and_same : (a a' b b' : Bool) → a ≡ a' → (a' ≡ true → b ≡ b') → (a && b) ≡ (a' && b')
and_same true true b b' e f = f refl
and_same false false b b' e f = refl
and_same true false b b' e f = absurd cc
and_same false true b b' e f = absurd cc

and_left : (a b : Bool) → (a && b) ≡ true → a ≡ true
and_left true b e = refl
and_left false b e = absurd cc

and_right : (a b : Bool) → (a && b) ≡ true → b ≡ true
and_right true b e = e
and_right false b e = absurd cc

number_on-cong : (v w : Valuation) (ws : List Wire) → ((x : Wire) → Contains ws x → wire_value v x ≡ wire_value w x)
    → number_on v ws ≡ number_on w ws
number_on-cong v w [] same = refl
number_on-cong v w (x ∷ ws) same =
    let head : wire_value v x ≡ wire_value w x = same x (Contains-here x ws) in
    let tail : number_on v ws ≡ number_on w ws = number_on-cong v w ws (λ y h. same y (Contains-later x y ws h)) in
    ap (λ b. cond b 1 0 + 2 * number_on v ws) head ∙ ap (λ n. cond (wire_value w x) 1 0 + 2 * n) tail

pub known_requests : (flat : Flat) (setup : Setup) (row : Row) (v : Valuation) → HasControls flat setup → AreControlsKnown setup row
    → ((b : ℕ) → Allows (row b) (v b))
    → (mem : MemPlan) → Contains setup.memories mem → AreSameRequests (ones row) v mem
known_requests flat setup row v has known allows mem listed = record {
  read = and_same _ _ _ _ request_same (λ e. ap not (write_same e));
  address = λ e. address_same (and_left (wire_value v mem.request) _ e);
  stored = λ address k. and_same _ _ _ _ write_is_same
      (λ e. stored_same address k (and_left (wire_value v mem.request) _ e) (and_right (wire_value v mem.request) _ e));
}
  where
    place : IsPlace setup.memories mem
    place = place_of_member setup.memories mem listed

    controls : HasControlsOf setup place.place mem
    controls = has.each place.place mem place.at

    allowed : (w : Wire) → Allows (wire_part row w) (wire_value v w)
    allowed w = wire-allows row v w allows

    same : (w : Wire) → wire_part row w ≢ Vary → wire_value (ones row) w ≡ wire_value v w
    same w = known_wire row v w (allowed w)

    request_known : wire_part row mem.request ≢ Vary
    request_known = control_known setup row known mem.request Always controls.request tt

    request_same : wire_value (ones row) mem.request ≡ wire_value v mem.request
    request_same = same mem.request request_known

    requested : wire_value v mem.request ≡ true → Applies setup row (Requested place.place)
    requested e = (mem, place.at, known_one row v mem.request (allowed mem.request) request_known e)

    write_known : wire_value v mem.request ≡ true → wire_part row (wire_or_off mem.write) ≢ Vary
    write_known e = go mem.write refl
      where
        go : (o : Option Wire) → mem.write ≡ o → wire_part row (wire_or_off o) ≢ Vary
        go None is = λ f. cc
        go (Some w) is = control_known setup row known w (Requested place.place) (controls.write w is) (requested e)

    write_same : wire_value v mem.request ≡ true → wire_value (ones row) (wire_or_off mem.write) ≡ wire_value v (wire_or_off mem.write)
    write_same e = same (wire_or_off mem.write) (write_known e)

    write_is_same : is_write (ones row) mem ≡ is_write v mem
    write_is_same = and_same _ _ _ _ request_same write_same

    address_same : wire_value v mem.request ≡ true → word_address (ones row) mem ≡ word_address v mem
    address_same e = ap (λ n. 4 * (n / 4)) (number_on-cong (ones row) v mem.address
        (λ w h. same w (control_known setup row known w (Requested place.place) (controls.address w h) (requested e))))

    written : wire_value v mem.request ≡ true → wire_value v (wire_or_off mem.write) ≡ true → Applies setup row (Written place.place)
    written e f = (
      mem,
      place.at,
      known_one row v mem.request (allowed mem.request) request_known e,
      known_one row v (wire_or_off mem.write) (allowed (wire_or_off mem.write)) (write_known e) f,
    )

    enable_same : (j : ℕ) → wire_value v mem.request ≡ true → wire_value v (wire_or_off mem.write) ≡ true
        → wire_value (ones row) (get_or mem.enables j (Const false)) ≡ wire_value v (get_or mem.enables j (Const false))
    enable_same j e f = go (cases_lt j (length mem.enables))
      where
        go : (j < length mem.enables) ⊎ (length mem.enables ≤ j)
            → wire_value (ones row) (get_or mem.enables j (Const false)) ≡ wire_value v (get_or mem.enables j (Const false))
        go (inl below) =
            same (get_or mem.enables j (Const false))
            (control_known setup row known (get_or mem.enables j (Const false)) (Written place.place)
            (controls.enables (get_or mem.enables j (Const false)) (Contains-get_or mem.enables j (Const false) below)) (written e f))
        go (inr past) = subst (λ w. wire_value (ones row) w ≡ wire_value v w) (sym (get_or_past mem.enables j (Const false) past)) refl

    stored_same : (address k : ℕ) → wire_value v mem.request ≡ true → wire_value v (wire_or_off mem.write) ≡ true
        → (nat_eq (word_address (ones row) mem) address && wire_value (ones row) (get_or mem.enables (k / 8) (Const false)))
        ≡ (nat_eq (word_address v mem) address && wire_value v (get_or mem.enables (k / 8) (Const false)))
    stored_same address k e f = and_same _ _ _ _ (ap (λ a. nat_eq a address) (address_same e)) (λ _. enable_same (k / 8) e f)
