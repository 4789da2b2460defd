-- The small circuits: what is known, what is calm and what is reached there.
use Rattle.std.proofs.Common.{◌≡◌, ◌≢◌, ℕ, zero, suc, ◌<◌, ◌⊎◌, inl, inr, Bool, true, false, cond, List, [], ◌∷◌, get_or, set, refl, sym, ◌∙◌, ap, subst, arith}
use Rattle.std.specs.Prelude.{Contains, ◌↔◌}
use Rattle.coco_base.specs.declared.text.Text.{Text}
use Rattle.coco_base.specs.declared.cell.Kind.TheVariants.{Mux}
use Rattle.coco_base.specs.declared.cell.Part.{Part}
use Rattle.coco_base.specs.declared.cell.Part.TheVariants.{Zero, One, Vary}
use Rattle.coco_base.specs.declared.netlist.FlatCell.{FlatCell}
use Rattle.coco_base.specs.declared.setup.InputPlan.{InputPlan}
use Rattle.coco_base.specs.declared.setup.Start.TheVariants.{Public}
use Rattle.coco_base.specs.declared.netlist.Wire.TheVariants.{Const, Bit}
use Rattle.coco_model.specs.Cells.{AllowsAll, IsForced, IsLiveInput, output_of}
use Rattle.coco_model.specs.Netlist.{wires_of, IsCellBit}
use Rattle.coco_model.specs.Known.{Row, part_of, parts}
use Rattle.coco_model.specs.Carried.{start_state, entry_of}
use Rattle.coco_model.specs.Run.{before}
use Rattle.coco_model.specs.Calm.{both}
use Rattle.coco_model.specs.Reach.{Reach, IsLive, Reaches, IsReach}
use Rattle.coco_model.specs.Reach.Reaches.{here, through}
use Rattle.coco_model.specs.Examples.{gate, keeper, selected_shares, selected_setup, IsSelectedReach}
use Rattle.coco_model.proofs.Basics.{Contains-here, Contains-later, Contains-cases, Contains-none, some_from_any, any_from_member}
use Rattle.coco_model.proofs.Keepers.{kept_known, both_of, before_below}
use Rattle.coco_model.proofs.Walks.{IsStep, step_from_cell, same_leaf}

-- a multiplexer of two inputs that vary varies
mux_varies : (select out : Part) → IsForced Mux (Vary ∷ Vary ∷ select ∷ []) out → out ≡ Vary
mux_varies Zero Zero f = absurd (let e = f (true ∷ true ∷ false ∷ []) (tt, (tt, (refl, tt))) in cc)
mux_varies Zero One f = absurd (let e = f (false ∷ false ∷ false ∷ []) (tt, (tt, (refl, tt))) in cc)
mux_varies One Zero f = absurd (let e = f (true ∷ true ∷ true ∷ []) (tt, (tt, (refl, tt))) in cc)
mux_varies One One f = absurd (let e = f (false ∷ false ∷ true ∷ []) (tt, (tt, (refl, tt))) in cc)
mux_varies Vary Zero f = absurd (let e = f (true ∷ true ∷ true ∷ []) (tt, (tt, (tt, tt))) in cc)
mux_varies Vary One f = absurd (let e = f (false ∷ false ∷ true ∷ []) (tt, (tt, (tt, tt))) in cc)
mux_varies Zero Vary f = refl
mux_varies One Vary f = refl
mux_varies Vary Vary f = refl

-- with a known select, the input of a multiplexer that it does not choose changes nothing
unchosen-same : (select : Bool) (inputs : List Bool) → AllowsAll (Vary ∷ Vary ∷ part_of select ∷ []) inputs
    → output_of Mux (set inputs (cond select 0 1) false) ≡ output_of Mux (set inputs (cond select 0 1) true)
unchosen-same false (a ∷ b ∷ false ∷ []) allowed = refl
unchosen-same true (a ∷ b ∷ true ∷ []) allowed = refl
unchosen-same false (a ∷ b ∷ true ∷ []) allowed = absurd (let e = allowed.1.1.0 in cc)
unchosen-same true (a ∷ b ∷ false ∷ []) allowed = absurd (let e = allowed.1.1.0 in cc)
unchosen-same select [] allowed = absurd allowed
unchosen-same select (a ∷ []) allowed = absurd allowed.1
unchosen-same select (a ∷ b ∷ []) allowed = absurd allowed.1.1
unchosen-same select (a ∷ b ∷ s ∷ x ∷ xs) allowed = absurd allowed.1.1.1

-- so only the chosen one is live
chosen_alone : (select : Bool) (place : ℕ) → IsLiveInput Mux (Vary ∷ Vary ∷ part_of select ∷ []) place → place ≡ cond select 1 0
chosen_alone false zero live = refl
chosen_alone true (suc zero) live = refl
chosen_alone false (suc zero) live = absurd (live.changes (unchosen-same false live.inputs live.allowed))
chosen_alone true zero live = absurd (live.changes (unchosen-same true live.inputs live.allowed))
chosen_alone false (suc (suc zero)) live = absurd (let e = live.varies in cc)
chosen_alone true (suc (suc zero)) live = absurd (let e = live.varies in cc)
chosen_alone select (suc (suc (suc place))) live = absurd (let e = live.varies in cc)

chosen_live : (select : Bool) → IsLiveInput Mux (Vary ∷ Vary ∷ part_of select ∷ []) (cond select 1 0)
chosen_live false = record {
  varies = refl;
  inputs = false ∷ false ∷ false ∷ [];
  allowed = (tt, (tt, (refl, tt)));
  changes = λ e. cc;
}
chosen_live true = record {
  varies = refl;
  inputs = false ∷ false ∷ true ∷ [];
  allowed = (tt, (tt, (refl, tt)));
  changes = λ e. cc;
}

-- with a select that changes, each input of a multiplexer is live
all_live : (place : ℕ) → place < 3 → IsLiveInput Mux (Vary ∷ Vary ∷ Vary ∷ []) place
all_live zero below = record { varies = refl; inputs = false ∷ false ∷ false ∷ []; allowed = (tt, (tt, (tt, tt))); changes = λ e. cc }
all_live (suc zero) below = record { varies = refl; inputs = false ∷ false ∷ true ∷ []; allowed = (tt, (tt, (tt, tt))); changes = λ e. cc }
all_live (suc (suc zero)) below =
    record { varies = refl; inputs = false ∷ true ∷ false ∷ []; allowed = (tt, (tt, (tt, tt))); changes = λ e. cc }
all_live (suc (suc (suc place))) below = absurd (omega arith)

abbrev selector : Text → FlatCell
selector name = gate name Mux (Bit 2 ∷ Bit 3 ∷ Bit 1 ∷ Const false ∷ []) 4

only_selector : (name : Text) (cell : FlatCell) → Contains (selected_shares name).cells cell → selector name ≡ cell
only_selector name cell h = go (Contains-cases (selector name) cell [] h)
  where
    go : (selector name ≡ cell) ⊎ Contains [] cell → selector name ≡ cell
    go (inl e) = e
    go (inr none) = absurd (Contains-none cell none)

selector_bit : (name : Text) (b : ℕ) → IsCellBit (selected_shares name) b → 4 ≡ b
selector_bit name b h = let s = some_from_any (λ (c : FlatCell). c.output ≡ b) (selected_shares name).cells h in
    ap (λ (c : FlatCell). c.output) (only_selector name s.member s.listed) ∙ s.holds

-- the source of the multiplexer's input at a place
selector_source : (place from : ℕ) → get_or (Bit 2 ∷ Bit 3 ∷ Bit 1 ∷ []) place (Const false) ≡ Bit from
    → (place < 3) × (get_or (2 ∷ 3 ∷ 1 ∷ []) place 4 ≡ from)
selector_source zero from e = (omega arith, cc)
selector_source (suc zero) from e = (omega arith, cc)
selector_source (suc (suc zero)) from e = (omega arith, cc)
selector_source (suc (suc (suc place))) from e = absurd cc

-- what is calm at the multiplexer, where its select is so
pub record IsSelecting (select : Part) (calm : Row) : Type 0 where
  pub select_is : calm 1 ≡ select
  pub first : calm 2 ≡ Vary
  pub second : calm 3 ≡ Vary
  pub out : calm 4 ≡ Vary

selector_parts : (select : Part) (calm : Row) → IsSelecting select calm
    → ◌≡◌ {A = List Part} (calm 2 ∷ calm 3 ∷ calm 1 ∷ []) (Vary ∷ Vary ∷ select ∷ [])
selector_parts select calm s = let e = s.select_is in let f = s.first in let g = s.second in cc

-- no source of the multiplexer is its own output
source_apart : (place from : ℕ) → place < 3 → get_or (2 ∷ 3 ∷ 1 ∷ []) place 4 ≡ from → 4 ≢ from
source_apart zero from below e = λ f. let g : ◌≡◌ {A = ℕ} 2 4 = e ∙ sym f in omega arith
source_apart (suc zero) from below e = λ f. let g : ◌≡◌ {A = ℕ} 3 4 = e ∙ sym f in omega arith
source_apart (suc (suc zero)) from below e = λ f. let g : ◌≡◌ {A = ℕ} 1 4 = e ∙ sym f in omega arith
source_apart (suc (suc (suc place))) from below e = absurd (omega arith)

-- a walk from the multiplexer goes through a live place to the source there
pub record IsThroughPlace (select : Part) (leaf : ℕ) : Type 0 where
  place : ℕ
  below : place < 3
  live : IsLiveInput Mux (Vary ∷ Vary ∷ select ∷ []) place
  source : get_or (2 ∷ 3 ∷ 1 ∷ []) place 4 ≡ leaf

through_place : (name : Text) (select : Part) (calm : Row) → IsSelecting select calm → (leaf : ℕ)
    → Reaches (selected_shares name) calm leaf 4 → IsThroughPlace select leaf
through_place name select calm s leaf walk = go step
  where
    step : IsStep (selected_shares name) calm leaf 4
    step = step_from_cell (selected_shares name) calm leaf 4
        (any_from_member (λ (c : FlatCell). c.output ≡ 4) (selected_shares name).cells (selector name) (Contains-here (selector name) []) refl) walk

    go : IsStep (selected_shares name) calm leaf 4 → IsThroughPlace select leaf
    go t =
        let same : selector name ≡ t.cell = only_selector name t.cell t.listed in
        let live : IsLive calm (selector name) t.place = subst (λ c. IsLive calm c t.place) (sym same) t.live in
        let wired : get_or (Bit 2 ∷ Bit 3 ∷ Bit 1 ∷ []) t.place (Const false) ≡ Bit t.from =
        subst (λ c. get_or (wires_of c) t.place (Const false) ≡ Bit t.from) (sym same) t.wired in
        let source = selector_source t.place t.from wired in
        let at_leaf : leaf ≡ t.from =
        same_leaf (selected_shares name) calm leaf t.from (λ h. source_apart t.place t.from source.0 source.1 (selector_bit name t.from h)) t.rest in
        record {
          place = t.place;
          below = source.0;
          live = subst (λ ps. IsLiveInput Mux ps t.place) (selector_parts select calm s) live;
          source = source.1 ∙ sym at_leaf;
        }

from_place : (name : Text) (select : Part) (calm : Row) → IsSelecting select calm → (place leaf : ℕ) → place < 3
    → IsLiveInput Mux (Vary ∷ Vary ∷ select ∷ []) place
    → get_or (2 ∷ 3 ∷ 1 ∷ []) place 4 ≡ leaf → calm leaf ≡ Vary → Reaches (selected_shares name) calm leaf 4
from_place name select calm s place leaf below live source varies =
    through 4 (selector name) place leaf (Contains-here (selector name) []) refl s.out
    (subst (λ ps. IsLiveInput Mux ps place) (sym (selector_parts select calm s)) live)
    (wired place below source)
    (here (λ h. source_apart place leaf below source (selector_bit name leaf h)) varies)
  where
    wired : (place : ℕ) → place < 3 → get_or (2 ∷ 3 ∷ 1 ∷ []) place 4 ≡ leaf
        → get_or (Bit 2 ∷ Bit 3 ∷ Bit 1 ∷ []) place (Const false) ≡ Bit leaf
    wired zero below e = ap Bit e
    wired (suc zero) below e = ap Bit e
    wired (suc (suc zero)) below e = ap Bit e
    wired (suc (suc (suc place))) below e = absurd (omega arith)

-- with one live place, its source alone is reached
reached_one : (name : Text) (select : Part) (calm : Row) → IsSelecting select calm → (place only leaf : ℕ) → place < 3
    → get_or (2 ∷ 3 ∷ 1 ∷ []) place 4 ≡ only → calm only ≡ Vary
    → IsLiveInput Mux (Vary ∷ Vary ∷ select ∷ []) place
    → ((other : ℕ) → IsLiveInput Mux (Vary ∷ Vary ∷ select ∷ []) other → other ≡ place)
    → Reaches (selected_shares name) calm leaf 4 ↔ Contains (only ∷ []) leaf
reached_one name select calm s place only leaf below source varies live alone = (to, from)
  where
    to : Reaches (selected_shares name) calm leaf 4 → Contains (only ∷ []) leaf
    to walk = let t = through_place name select calm s leaf walk in
        subst (Contains (only ∷ [])) (sym source ∙ subst (λ p. get_or (2 ∷ 3 ∷ 1 ∷ []) p 4 ≡ leaf) (alone t.place t.live) t.source)
        (Contains-here only [])

    from : Contains (only ∷ []) leaf → Reaches (selected_shares name) calm leaf 4
    from h = go (Contains-cases only leaf [] h)
      where
        go : (only ≡ leaf) ⊎ Contains [] leaf → Reaches (selected_shares name) calm leaf 4
        go (inl e) =
            subst (λ l. Reaches (selected_shares name) calm l 4) e (from_place name select calm s place only below live source varies)
        go (inr none) = absurd (Contains-none leaf none)

reached_first : (name : Text) (calm : Row) → IsSelecting Zero calm → (leaf : ℕ)
    → Reaches (selected_shares name) calm leaf 4 ↔ Contains (2 ∷ []) leaf
reached_first name calm s leaf =
    reached_one name Zero calm s 0 2 leaf (omega arith) refl s.first (chosen_live false) (chosen_alone false)

reached_second : (name : Text) (calm : Row) → IsSelecting One calm → (leaf : ℕ)
    → Reaches (selected_shares name) calm leaf 4 ↔ Contains (3 ∷ []) leaf
reached_second name calm s leaf =
    reached_one name One calm s 1 3 leaf (omega arith) refl s.second (chosen_live true) (chosen_alone true)

pub reached_all : (name : Text) (calm : Row) → IsSelecting Vary calm → (leaf : ℕ)
    → Reaches (selected_shares name) calm leaf 4 ↔ Contains (1 ∷ 2 ∷ 3 ∷ []) leaf
reached_all name calm s leaf = (to, from)
  where
    listed : (place : ℕ) → place < 3 → Contains {X = ℕ} (1 ∷ 2 ∷ 3 ∷ []) (get_or (2 ∷ 3 ∷ 1 ∷ []) place 4)
    listed zero below = Contains-later 1 2 (2 ∷ 3 ∷ []) (Contains-here 2 (3 ∷ []))
    listed (suc zero) below = Contains-later 1 3 (2 ∷ 3 ∷ []) (Contains-later 2 3 (3 ∷ []) (Contains-here 3 []))
    listed (suc (suc zero)) below = Contains-here 1 (2 ∷ 3 ∷ [])
    listed (suc (suc (suc place))) below = absurd (omega arith)

    to : Reaches (selected_shares name) calm leaf 4 → Contains (1 ∷ 2 ∷ 3 ∷ []) leaf
    to walk =
        let t = through_place name Vary calm s leaf walk in subst (Contains {X = ℕ} (1 ∷ 2 ∷ 3 ∷ [])) t.source (listed t.place t.below)

    at_place : (place : ℕ) → place < 3 → calm (get_or (2 ∷ 3 ∷ 1 ∷ []) place 4) ≡ Vary → get_or (2 ∷ 3 ∷ 1 ∷ []) place 4 ≡ leaf
        → Reaches (selected_shares name) calm leaf 4
    at_place place below varies e =
        from_place name Vary calm s place leaf below (all_live place below) e (subst (λ l. calm l ≡ Vary) e varies)

    from : Contains (1 ∷ 2 ∷ 3 ∷ []) leaf → Reaches (selected_shares name) calm leaf 4
    from h = go (Contains-cases 1 leaf (2 ∷ 3 ∷ []) h)
      where
        third : (3 ≡ leaf) ⊎ Contains [] leaf → Reaches (selected_shares name) calm leaf 4
        third (inl e) = at_place 1 (omega arith) s.second e
        third (inr none) = absurd (Contains-none leaf none)

        second : (2 ≡ leaf) ⊎ Contains (3 ∷ []) leaf → Reaches (selected_shares name) calm leaf 4
        second (inl e) = at_place 0 (omega arith) s.first e
        second (inr h) = third (Contains-cases 3 leaf [] h)

        go : (1 ≡ leaf) ⊎ Contains (2 ∷ 3 ∷ []) leaf → Reaches (selected_shares name) calm leaf 4
        go (inl e) = at_place 2 (omega arith) s.select_is e
        go (inr h) = second (Contains-cases 2 leaf (3 ∷ []) h)

abbrev select_plan : InputPlan
select_plan = record { bit = 1; values = Public false ∷ Public true ∷ [] }

pub selected_reach : (name : Text) (reach : Reach) → IsReach (selected_shares name) (selected_setup name) 3 reach → IsSelectedReach reach
selected_reach name reach r = record {
  zero = λ leaf. at_row 0 (omega arith) leaf (2 ∷ []) (reached_first name (r.calm 0) (selecting 0 (omega arith) Zero still_zero) leaf);
  changing =
      λ leaf. at_row 1 (omega arith) leaf (1 ∷ 2 ∷ 3 ∷ []) (reached_all name (r.calm 1) (selecting 1 (omega arith) Vary changing) leaf);
  one = λ leaf. at_row 2 (omega arith) leaf (3 ∷ []) (reached_second name (r.calm 2) (selecting 2 (omega arith) One still_one) leaf);
}
  where
    first_listed : Contains (selected_shares name).flops (keeper name 2)
    first_listed = Contains-here (keeper name 2) (keeper name 3 ∷ [])

    second_listed : Contains (selected_shares name).flops (keeper name 3)
    second_listed = Contains-later (keeper name 2) (keeper name 3) (keeper name 3 ∷ []) (Contains-here (keeper name 3) [])

    first_share : (t : ℕ) → t < 3 → r.row t 2 ≡ Vary
    first_share =
        kept_known (selected_shares name)
        (selected_setup name) 3 r.row r.word r.known (keeper name 2) first_listed refl Vary (r.known.carried.first.flops (keeper name 2) first_listed)

    second_share : (t : ℕ) → t < 3 → r.row t 3 ≡ Vary
    second_share =
        kept_known (selected_shares name)
        (selected_setup name) 3 r.row r.word r.known (keeper name 3) second_listed refl Vary (r.known.carried.first.flops (keeper name 3) second_listed)

    input : (t : ℕ) → t < 3 → r.row t 1 ≡ start_state parts (selected_setup name).table t (entry_of (Public false ∷ Public true ∷ []) t)
    input t below = (r.known.carried.given t below).inputs select_plan (Contains-here select_plan [])

    still : (t : ℕ) → t < 3 → (b : ℕ) → 4 ≢ b → r.calm t b ≡ both (r.row (before t) b) (r.row t b)
    still t below b apart = (r.still t below).leaves b (λ h. apart (selector_bit name b h))

    shown : (t : ℕ) → t < 3 → (b : ℕ) → 4 ≢ b → ((s : ℕ) → s < 3 → r.row s b ≡ Vary) → r.calm t b ≡ Vary
    shown t below b apart unknown =
        still t below b apart
        ∙ both_of (r.row (before t) b) (r.row t b) Vary Vary (unknown (before t) (before_below t 3 below)) (unknown t below)

    still_zero : r.calm 0 1 ≡ Zero
    still_zero =
        still 0 (omega arith) 1 (λ e. omega arith)
        ∙ both_of (r.row 0 1) (r.row 0 1) Zero Zero (input 0 (omega arith)) (input 0 (omega arith))

    changing : r.calm 1 1 ≡ Vary
    changing =
        still 1 (omega arith) 1 (λ e. omega arith)
        ∙ both_of (r.row 0 1) (r.row 1 1) Zero One (input 0 (omega arith)) (input 1 (omega arith))

    still_one : r.calm 2 1 ≡ One
    still_one =
        still 2 (omega arith) 1 (λ e. omega arith) ∙ both_of (r.row 1 1) (r.row 2 1) One One (input 1 (omega arith)) (input 2 (omega arith))

    selecting : (t : ℕ) → t < 3 → (select : Part) → r.calm t 1 ≡ select → IsSelecting select (r.calm t)
    selecting t below select is = record { select_is = is; first = a; second = b; out = c }
      where
        a : r.calm t 2 ≡ Vary
        a = shown t below 2 (λ e. omega arith) first_share

        b : r.calm t 3 ≡ Vary
        b = shown t below 3 (λ e. omega arith) second_share

        c : r.calm t 4 ≡ Vary
        c = mux_varies select (r.calm t 4)
            (subst (λ ps. IsForced Mux ps (r.calm t 4)) (let p : ◌≡◌ {A = List Part} (r.calm t 2 ∷ r.calm t 3 ∷ r.calm t 1 ∷ []) (Vary ∷ Vary ∷ select ∷ []) = let e = a in let f = b in let g = is in cc in p)
            ((r.still t below).forced.cells (selector name) (Contains-here (selector name) [])))

    at_row : (t : ℕ) → t < 3 → (leaf : ℕ) (listed : List ℕ) → Reaches (selected_shares name) (r.calm t) leaf 4 ↔ Contains listed leaf
        → Contains (reach t 4) leaf ↔ Contains listed leaf
    at_row t below leaf listed e = let row = (r.reached t below 4 (omega arith)).1 leaf in ((λ h. e.0 (row.0 h)), (λ h. row.1 (e.1 h)))
