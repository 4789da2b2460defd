-- A gate whose inputs may pulse: what is calm and what is reached there.
use Rattle.std.proofs.Common.{◌≡◌, ◌≢◌, ℕ, zero, suc, ◌<◌, ◌⊎◌, inl, inr, true, false, List, [], ◌∷◌, get_or, refl, sym, ◌∙◌, ap, subst, arith}
use Rattle.std.specs.Prelude.{Contains, ◌↔◌}
use Rattle.coco_base.specs.declared.text.Text.{Text}
use Rattle.coco_base.specs.declared.cell.Kind.TheVariants.{And, Xor}
use Rattle.coco_base.specs.declared.cell.Part.{Part}
use Rattle.coco_base.specs.declared.cell.Part.TheVariants.{Zero, One, Vary}
use Rattle.coco_base.specs.declared.netlist.FlatCell.{FlatCell}
use Rattle.coco_base.specs.declared.setup.InputPlan.{InputPlan}
use Rattle.coco_base.specs.declared.setup.Start.TheVariants.{Public}
use Rattle.coco_base.specs.declared.netlist.Wire.TheVariants.{Const, Bit}
use Rattle.coco_model.specs.Cells.{IsForced, Forces, IsLiveInput}
use Rattle.coco_model.specs.Netlist.{wires_of, IsCellBit}
use Rattle.coco_model.specs.Known.{Row, IsForcedRow, parts}
use Rattle.coco_model.specs.Carried.{start_state, entry_of}
use Rattle.coco_model.specs.Run.{before}
use Rattle.coco_model.specs.Calm.{both}
use Rattle.coco_model.specs.Reach.{Reach, Reaches, IsReach}
use Rattle.coco_model.specs.Reach.Reaches.{here, through}
use Rattle.coco_model.specs.Examples.{gate, keeper, pulsing_gate, pulsing_setup, IsPulsingReach}
use Rattle.coco_model.proofs.Keepers.{kept_known, both_of, before_below}
use Rattle.coco_model.proofs.Basics.{Contains-here, Contains-later, Contains-cases, Contains-none, HasMember, some_from_any, any_from_member}
use Rattle.coco_model.proofs.Walks.{IsStep, step_from_cell, same_leaf}

-- gates of two inputs that vary vary
xor_varies : (out : Part) → IsForced Xor (Vary ∷ Vary ∷ []) out → out ≡ Vary
xor_varies Zero f = absurd (let e = f (true ∷ false ∷ []) (tt, (tt, tt)) in cc)
xor_varies One f = absurd (let e = f (false ∷ false ∷ []) (tt, (tt, tt)) in cc)
xor_varies Vary f = refl

and_varies : (out : Part) → IsForced And (Vary ∷ Vary ∷ []) out → out ≡ Vary
and_varies Zero f = absurd (let e = f (true ∷ true ∷ []) (tt, (tt, tt)) in cc)
and_varies One f = absurd (let e = f (false ∷ false ∷ []) (tt, (tt, tt)) in cc)
and_varies Vary f = refl

-- an exclusive or of zeros is zero, and so is a conjunction with zero
zeros_forced : Forces Xor (Zero ∷ Zero ∷ []) false
zeros_forced (true ∷ b ∷ []) allowed = absurd (let e = allowed.0 in cc)
zeros_forced (false ∷ b ∷ []) allowed = allowed.1.0
zeros_forced [] allowed = absurd allowed
zeros_forced (a ∷ []) allowed = absurd allowed.1
zeros_forced (a ∷ b ∷ x ∷ xs) allowed = absurd allowed.1.1

zero_forced : Forces And (Vary ∷ Zero ∷ []) false
zero_forced (true ∷ b ∷ []) allowed = allowed.1.0
zero_forced (false ∷ b ∷ []) allowed = refl
zero_forced [] allowed = absurd allowed
zero_forced (a ∷ []) allowed = absurd allowed.1
zero_forced (a ∷ b ∷ x ∷ xs) allowed = absurd allowed.1.1

xor_zero : (out : Part) → IsForced Xor (Zero ∷ Zero ∷ []) out → out ≡ Zero
xor_zero Zero f = refl
xor_zero One f = absurd (let e = f (false ∷ false ∷ []) (refl, (refl, tt)) in cc)
xor_zero Vary f = absurd (f.0 zeros_forced)

and_zero : (out : Part) → IsForced And (Vary ∷ Zero ∷ []) out → out ≡ Zero
and_zero Zero f = refl
and_zero One f = absurd (let e = f (false ∷ false ∷ []) (tt, (refl, tt)) in cc)
and_zero Vary f = absurd (f.0 zero_forced)

abbrev the_and : Text → FlatCell
the_and name = gate name And (Bit 3 ∷ Bit 2 ∷ Const false ∷ Const false ∷ []) 4

abbrev the_xor : Text → FlatCell
the_xor name = gate name Xor (Bit 1 ∷ Bit 1 ∷ Const false ∷ Const false ∷ []) 2

the_cells : (name : Text) (cell : FlatCell) → Contains (pulsing_gate name).cells cell → (the_and name ≡ cell) ⊎ (the_xor name ≡ cell)
the_cells name cell h = go (Contains-cases (the_and name) cell (the_xor name ∷ []) h)
  where
    last : (the_xor name ≡ cell) ⊎ Contains [] cell → (the_and name ≡ cell) ⊎ (the_xor name ≡ cell)
    last (inl e) = inr e
    last (inr none) = absurd (Contains-none cell none)

    go : (the_and name ≡ cell) ⊎ Contains (the_xor name ∷ []) cell → (the_and name ≡ cell) ⊎ (the_xor name ≡ cell)
    go (inl e) = inl e
    go (inr h) = last (Contains-cases (the_xor name) cell [] h)

and_listed : (name : Text) → Contains (pulsing_gate name).cells (the_and name)
and_listed name = Contains-here (the_and name) (the_xor name ∷ [])

xor_listed : (name : Text) → Contains (pulsing_gate name).cells (the_xor name)
xor_listed name = Contains-later (the_and name) (the_xor name) (the_xor name ∷ []) (Contains-here (the_xor name) [])

-- a cell's bit is 4 or 2
cell_bits : (name : Text) (b : ℕ) → IsCellBit (pulsing_gate name) b → (4 ≡ b) ⊎ (2 ≡ b)
cell_bits name b h = go (the_cells name s.member s.listed)
  where
    s : HasMember (λ (c : FlatCell). c.output ≡ b) (pulsing_gate name).cells
    s = some_from_any (λ (c : FlatCell). c.output ≡ b) (pulsing_gate name).cells h

    go : (the_and name ≡ s.member) ⊎ (the_xor name ≡ s.member) → (4 ≡ b) ⊎ (2 ≡ b)
    go (inl e) = inl (ap (λ (c : FlatCell). c.output) e ∙ s.holds)
    go (inr e) = inr (ap (λ (c : FlatCell). c.output) e ∙ s.holds)

no_cell : (name : Text) (b : ℕ) → b ≢ 4 → b ≢ 2 → IsCellBit (pulsing_gate name) b → ⊥
no_cell name b not_and not_xor h = go (cell_bits name b h)
  where
    go : (4 ≡ b) ⊎ (2 ≡ b) → ⊥
    go (inl e) = not_and (sym e)
    go (inr e) = not_xor (sym e)

and_bit : (name : Text) → IsCellBit (pulsing_gate name) 4
and_bit name = any_from_member (λ (c : FlatCell). c.output ≡ 4) (pulsing_gate name).cells (the_and name) (and_listed name) refl

xor_bit : (name : Text) → IsCellBit (pulsing_gate name) 2
xor_bit name = any_from_member (λ (c : FlatCell). c.output ≡ 2) (pulsing_gate name).cells (the_xor name) (xor_listed name) refl

-- where the input keeps still at 0, nothing is reached
pub reached_none : (name : Text) (calm : Row) → IsForcedRow (pulsing_gate name) calm → calm 1 ≡ Zero → calm 3 ≡ Vary → (leaf : ℕ)
    → Reaches (pulsing_gate name) calm leaf 4 ↔ Contains [] leaf
reached_none name calm forced input share leaf = (to, λ h. absurd (Contains-none leaf h))
  where
    middle : calm 2 ≡ Zero
    middle =
        xor_zero (calm 2)
        (subst (λ ps. IsForced Xor ps (calm 2)) (let e = input in let p : ◌≡◌ {A = List Part} (calm 1 ∷ calm 1 ∷ []) (Zero ∷ Zero ∷ []) = cc in p) (forced.cells (the_xor name) (xor_listed name)))

    out : calm 4 ≡ Zero
    out =
        and_zero (calm 4)
        (subst (λ ps. IsForced And ps (calm 4)) (let e = middle in let f = share in let p : ◌≡◌ {A = List Part} (calm 3 ∷ calm 2 ∷ []) (Vary ∷ Zero ∷ []) = cc in p) (forced.cells (the_and name) (and_listed name)))

    to : Reaches (pulsing_gate name) calm leaf 4 → Contains [] leaf
    to walk = absurd (let s = step_from_cell (pulsing_gate name) calm leaf 4 (and_bit name) walk in let e = out in let f = s.varies in cc)

-- where the input changes, so that the exclusive or may pulse, both the share and the input are reached
pub reached_pulse : (name : Text) (calm : Row) → IsForcedRow (pulsing_gate name) calm → calm 1 ≡ Vary → calm 3 ≡ Vary → (leaf : ℕ)
    → Reaches (pulsing_gate name) calm leaf 4 ↔ Contains (1 ∷ 3 ∷ []) leaf
reached_pulse name calm forced input share leaf = (to, from)
  where
    two_inputs : ◌≡◌ {A = List Part} (calm 1 ∷ calm 1 ∷ []) (Vary ∷ Vary ∷ [])
    two_inputs = let e = input in cc

    middle : calm 2 ≡ Vary
    middle = xor_varies (calm 2) (subst (λ ps. IsForced Xor ps (calm 2)) two_inputs (forced.cells (the_xor name) (xor_listed name)))

    both_inputs : ◌≡◌ {A = List Part} (calm 3 ∷ calm 2 ∷ []) (Vary ∷ Vary ∷ [])
    both_inputs = let e = middle in let f = share in cc

    out : calm 4 ≡ Vary
    out = and_varies (calm 4) (subst (λ ps. IsForced And ps (calm 4)) both_inputs (forced.cells (the_and name) (and_listed name)))

    has_share : Contains {X = ℕ} (1 ∷ 3 ∷ []) 3
    has_share = Contains-later 1 3 (3 ∷ []) (Contains-here 3 [])

    has_input : Contains {X = ℕ} (1 ∷ 3 ∷ []) 1
    has_input = Contains-here 1 (3 ∷ [])

    behind_xor : (place from : ℕ) → get_or (Bit 1 ∷ Bit 1 ∷ []) place (Const false) ≡ Bit from → 1 ≡ from
    behind_xor zero from e = cc
    behind_xor (suc zero) from e = cc
    behind_xor (suc (suc place)) from e = absurd cc

    at_xor : Reaches (pulsing_gate name) calm leaf 2 → 1 ≡ leaf
    at_xor walk = go (the_cells name s.cell s.listed)
      where
        s : IsStep (pulsing_gate name) calm leaf 2
        s = step_from_cell (pulsing_gate name) calm leaf 2 (xor_bit name) walk

        go : (the_and name ≡ s.cell) ⊎ (the_xor name ≡ s.cell) → 1 ≡ leaf
        go (inl e) = absurd (let f : ◌≡◌ {A = ℕ} 4 2 = ap (λ (c : FlatCell). c.output) e ∙ s.drives in omega arith)
        go (inr e) =
            let one : 1 ≡ s.from =
            behind_xor s.place s.from (subst (λ c. get_or (wires_of c) s.place (Const false) ≡ Bit s.from) (sym e) s.wired) in
            let at : leaf ≡ s.from =
            same_leaf (pulsing_gate name) calm leaf s.from (no_cell name s.from (λ f. let g : ◌≡◌ {A = ℕ} 1 4 = one ∙ f in omega arith) (λ f. let g : ◌≡◌ {A = ℕ} 1 2 = one ∙ f in omega arith)) s.rest in
            one ∙ sym at

    behind_and : (place from : ℕ) → get_or (Bit 3 ∷ Bit 2 ∷ []) place (Const false) ≡ Bit from → Reaches (pulsing_gate name) calm leaf from
        → Contains (1 ∷ 3 ∷ []) leaf
    behind_and zero from e walk =
        let three : 3 ≡ from = cc in
        let at : leaf ≡ from =
        same_leaf (pulsing_gate name) calm leaf from (no_cell name from (λ f. let g : ◌≡◌ {A = ℕ} 3 4 = three ∙ f in omega arith) (λ f. let g : ◌≡◌ {A = ℕ} 3 2 = three ∙ f in omega arith)) walk in
        subst (Contains {X = ℕ} (1 ∷ 3 ∷ [])) (three ∙ sym at) has_share
    behind_and (suc zero) from e walk =
        let two : 2 ≡ from = cc in
        subst (Contains {X = ℕ} (1 ∷ 3 ∷ [])) (at_xor (subst (Reaches (pulsing_gate name) calm leaf) (sym two) walk)) has_input
    behind_and (suc (suc place)) from e walk = absurd cc

    to : Reaches (pulsing_gate name) calm leaf 4 → Contains (1 ∷ 3 ∷ []) leaf
    to walk = go (the_cells name s.cell s.listed)
      where
        s : IsStep (pulsing_gate name) calm leaf 4
        s = step_from_cell (pulsing_gate name) calm leaf 4 (and_bit name) walk

        go : (the_and name ≡ s.cell) ⊎ (the_xor name ≡ s.cell) → Contains (1 ∷ 3 ∷ []) leaf
        go (inr e) = absurd (let f : ◌≡◌ {A = ℕ} 2 4 = ap (λ (c : FlatCell). c.output) e ∙ s.drives in omega arith)
        go (inl e) = behind_and s.place s.from (subst (λ c. get_or (wires_of c) s.place (Const false) ≡ Bit s.from) (sym e) s.wired) s.rest

    share_live : IsLiveInput And (Vary ∷ Vary ∷ []) 0
    share_live = record { varies = refl; inputs = false ∷ true ∷ []; allowed = (tt, (tt, tt)); changes = λ e. cc }

    pulse_live : IsLiveInput And (Vary ∷ Vary ∷ []) 1
    pulse_live = record { varies = refl; inputs = true ∷ false ∷ []; allowed = (tt, (tt, tt)); changes = λ e. cc }

    input_live : IsLiveInput Xor (Vary ∷ Vary ∷ []) 0
    input_live = record { varies = refl; inputs = false ∷ false ∷ []; allowed = (tt, (tt, tt)); changes = λ e. cc }

    to_share : Reaches (pulsing_gate name) calm 3 4
    to_share =
        through 4 (the_and name) 0 3 (and_listed name) refl out (subst (λ ps. IsLiveInput And ps 0) (sym both_inputs) share_live) refl
        (here (no_cell name 3 (λ e. omega arith) (λ e. omega arith)) share)

    to_input : Reaches (pulsing_gate name) calm 1 4
    to_input =
        through 4 (the_and name) 1 2 (and_listed name) refl out (subst (λ ps. IsLiveInput And ps 1) (sym both_inputs) pulse_live) refl
        (through 2 (the_xor name) 0 1 (xor_listed name) refl middle (subst (λ ps. IsLiveInput Xor ps 0) (sym two_inputs) input_live) refl
        (here (no_cell name 1 (λ e. omega arith) (λ e. omega arith)) input))

    from : Contains (1 ∷ 3 ∷ []) leaf → Reaches (pulsing_gate name) calm leaf 4
    from h = go (Contains-cases 1 leaf (3 ∷ []) h)
      where
        last : (3 ≡ leaf) ⊎ Contains [] leaf → Reaches (pulsing_gate name) calm leaf 4
        last (inl e) = subst (λ l. Reaches (pulsing_gate name) calm l 4) e to_share
        last (inr none) = absurd (Contains-none leaf none)

        go : (1 ≡ leaf) ⊎ Contains (3 ∷ []) leaf → Reaches (pulsing_gate name) calm leaf 4
        go (inl e) = subst (λ l. Reaches (pulsing_gate name) calm l 4) e to_input
        go (inr h) = last (Contains-cases 3 leaf [] h)

abbrev input_plan : InputPlan
input_plan = record { bit = 1; values = Public false ∷ Public true ∷ [] }

pub pulsing_reach : (name : Text) (reach : Reach) → IsReach (pulsing_gate name) (pulsing_setup name) 3 reach → IsPulsingReach reach
pulsing_reach name reach r = record {
  still =
      λ leaf. at_row 0 (omega arith) leaf [] (reached_none name (r.calm 0) (r.still 0 (omega arith)).forced at_zero (share 0 (omega arith)) leaf);
  changing =
      λ leaf. at_row 1 (omega arith) leaf (1 ∷ 3 ∷ [])
      (reached_pulse name (r.calm 1) (r.still 1 (omega arith)).forced changes (share 1 (omega arith)) leaf);
}
  where
    share_listed : Contains (pulsing_gate name).flops (keeper name 3)
    share_listed = Contains-here (keeper name 3) []

    unknown : (t : ℕ) → t < 3 → r.row t 3 ≡ Vary
    unknown =
        kept_known (pulsing_gate name)
        (pulsing_setup name) 3 r.row r.word r.known (keeper name 3) share_listed refl Vary (r.known.carried.first.flops (keeper name 3) share_listed)

    input : (t : ℕ) → t < 3 → r.row t 1 ≡ start_state parts (pulsing_setup name).table t (entry_of (Public false ∷ Public true ∷ []) t)
    input t below = (r.known.carried.given t below).inputs input_plan (Contains-here input_plan [])

    calm_leaf : (t : ℕ) → t < 3 → (b : ℕ) → b ≢ 4 → b ≢ 2 → r.calm t b ≡ both (r.row (before t) b) (r.row t b)
    calm_leaf t below b not_and not_xor = (r.still t below).leaves b (no_cell name b not_and not_xor)

    share : (t : ℕ) → t < 3 → r.calm t 3 ≡ Vary
    share t below = calm_leaf t below 3 (λ e. omega arith) (λ e. omega arith)
        ∙ both_of (r.row (before t) 3) (r.row t 3) Vary Vary (unknown (before t) (before_below t 3 below)) (unknown t below)

    at_zero : r.calm 0 1 ≡ Zero
    at_zero =
        calm_leaf 0 (omega arith) 1 (λ e. omega arith) (λ e. omega arith)
        ∙ both_of (r.row 0 1) (r.row 0 1) Zero Zero (input 0 (omega arith)) (input 0 (omega arith))

    changes : r.calm 1 1 ≡ Vary
    changes =
        calm_leaf 1 (omega arith) 1 (λ e. omega arith) (λ e. omega arith)
        ∙ both_of (r.row 0 1) (r.row 1 1) Zero One (input 0 (omega arith)) (input 1 (omega arith))

    at_row : (t : ℕ) → t < 3 → (leaf : ℕ) (listed : List ℕ) → Reaches (pulsing_gate name) (r.calm t) leaf 4 ↔ Contains listed leaf
        → Contains (reach t 4) leaf ↔ Contains listed leaf
    at_row t below leaf listed e = let row = (r.reached t below 4 (omega arith)).1 leaf in ((λ h. e.0 (row.0 h)), (λ h. row.1 (e.1 h)))
