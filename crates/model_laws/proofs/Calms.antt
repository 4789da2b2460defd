-- Calm bits keep still, and bits whose reached leaves agree show one waveform, under every schedule of gate events.
use Rattle.std.proofs.Common.{◌≡◌, ◌≢◌, ℕ, zero, suc, ◌<◌, ◌⊎◌, inl, inr, Bool, true, false, cond, nat_eq, List, [], ◌∷◌, map, get_or, refl, sym, ◌∙◌, ap, subst}
use Rattle.std.specs.Prelude.{Contains, slice_get, Option, Some, None}
use Rattle.std.proofs.Math.ListN.{get_or-map}
use Rattle.std.proofs.lemmas.Bool.{cases_Bool, eqb-true}
use Rattle.coco_base.specs.declared.cell.Part.{Part}
use Rattle.coco_base.specs.declared.cell.Part.TheVariants.{Zero, One, Vary}
use Rattle.coco_base.specs.declared.netlist.Flat.{Flat}
use Rattle.coco_base.specs.declared.netlist.FlatCell.{FlatCell}
use Rattle.coco_base.specs.declared.setup.Setup.{Setup}
use Rattle.coco_base.specs.declared.netlist.Wire.{Wire}
use Rattle.coco_base.specs.declared.netlist.Wire.TheVariants.{Const, Bit}
use Rattle.coco_model.specs.Cells.{output_of, Allows}
use Rattle.coco_model.specs.Netlist.{Valuation, wires_of, wire_value, cell_value, IsSettled, IsRanked, IsCellBit}
use Rattle.coco_model.specs.Labels.{Choice}
use Rattle.coco_model.specs.Run.{Memory, IsRun, before}
use Rattle.coco_model.specs.Known.{Row, wire_part, cell_parts}
use Rattle.coco_model.specs.Calm.{both, IsCalm}
use Rattle.coco_model.specs.Reach.{Reaches}
use Rattle.coco_model.specs.Reach.Reaches.{here, through}
use Rattle.coco_model.specs.Events.{Event, put, put_cell, after_event, waveform}
use Rattle.coco_model.specs.Events.Event.{leaf, cell}
use Rattle.coco_model.proofs.Keepers.{before_below}
use Rattle.coco_model.proofs.Basics.{Contains-here, Contains-later, Contains-cases, Contains-none}
use Rattle.coco_model.proofs.LivePlaces.{IsLivePlace, live_input, live_decide}
use Rattle.model_laws.proofs.Lists.{member_of_place}
use Rattle.model_laws.proofs.Ranks.{by_rank}
use Rattle.model_laws.proofs.Forced.{forced-allows, wires-allow, row-allows}
use Rattle.model_laws.proofs.Knowing.{known_run}
use Rattle.model_laws.specs.Laws.{IsChecked, CalmLaw, WaveformLaw}

-- what one of two cycles allows is allowed by what is known in both
both-allows : (p q : Part) (b : Bool) → Allows p b ⊎ Allows q b → Allows (both p q) b
both-allows Zero Zero b (inl h) = h
both-allows Zero Zero b (inr h) = h
both-allows One One b (inl h) = h
both-allows One One b (inr h) = h
both-allows Zero One b h = tt
both-allows Zero Vary b h = tt
both-allows One Zero b h = tt
both-allows One Vary b h = tt
both-allows Vary q b h = tt

-- what holds of a valuation, and of the value put at a bit, holds afterwards
pub put-holds : (P : ℕ → Bool → Type 0) (v : Valuation) (bit : ℕ) (x : Bool) → P bit x → ((b : ℕ) → P b (v b)) → (b : ℕ)
    → P b (put v bit x b)
put-holds P v bit x new old b = go (cases_Bool (nat_eq b bit))
  where
    go : (nat_eq b bit ≡ true) ⊎ (nat_eq b bit ≡ false) → P b (put v bit x b)
    go (inl e) = subst (λ t. P b (cond t x (v b))) (sym e) (subst (λ n. P n x) (sym (eqb-true b bit e)) new)
    go (inr e) = subst (λ t. P b (cond t x (v b))) (sym e) (old b)

-- a row allows every value of a valuation
pub record AllowsRow (calm : Row) (v : Valuation) : Type 0 where
  pub each : (b : ℕ) → Allows (calm b) (v b)

cell-allows : (flat : Flat) (old now calm : Row) → IsCalm flat old now calm → (v : Valuation) → AllowsRow calm v → (c : FlatCell)
    → Contains flat.cells c → Allows (calm c.output) (cell_value v c)
cell-allows flat old now calm still v allows c listed =
    forced-allows c.kind (cell_parts calm c) (calm c.output) (map (wire_value v) (wires_of c)) (still.forced.cells c listed)
    (wires-allow calm v (wires_of c) (λ b h. allows.each b))

event-calm : (flat : Flat) (old now calm : Row) → IsCalm flat old now calm → (new v : Valuation) → AllowsRow calm new → AllowsRow calm v
    → (e : Event) → AllowsRow calm (after_event flat new v e)
event-calm flat old now calm still new v allows_new allows (leaf bit) =
    record { each = put-holds (λ b x. Allows (calm b) x) v bit (new bit) (allows_new.each bit) allows.each }
event-calm flat old now calm still new v allows_new allows (cell index) = go (slice_get flat.cells index) refl
  where
    go : (o : Option FlatCell) → slice_get flat.cells index ≡ o → AllowsRow calm (put_cell v o)
    go None is = allows
    go (Some c) is = record {
      each = put-holds (λ b x. Allows (calm b) x) v c.output (cell_value v c)
          (cell-allows flat old now calm still v allows c (member_of_place flat.cells index c is)) allows.each;
    }

waveform-calm : (flat : Flat) (old now calm : Row) → IsCalm flat old now calm → (new v : Valuation) → AllowsRow calm new → AllowsRow calm v
    → (events : List Event) (b : ℕ) (x : Bool) → Contains (waveform flat new b v events) x → Allows (calm b) x
waveform-calm flat old now calm still new v allows_new allows [] b x h = go (Contains-cases (v b) x [] h)
  where
    go : (v b ≡ x) ⊎ Contains [] x → Allows (calm b) x
    go (inl e) = subst (Allows (calm b)) e (allows.each b)
    go (inr none) = absurd (Contains-none x none)
waveform-calm flat old now calm still new v allows_new allows (e ∷ es) b x h =
    go (Contains-cases (v b) x (waveform flat new b (after_event flat new v e) es) h)
    (λ i. waveform-calm flat old now calm still new (after_event flat new v e) allows_new (event-calm flat old now calm still new v allows_new allows e) es b x i)
  where
    go : (v b ≡ x) ⊎ Contains (waveform flat new b (after_event flat new v e) es) x
        → (Contains (waveform flat new b (after_event flat new v e) es) x → Allows (calm b) x) → Allows (calm b) x
    go (inl is) rest = subst (Allows (calm b)) is (allows.each b)
    go (inr i) rest = rest i

-- the valuations of a cycle and of the cycle before are settled, and allowed by what is calm
pub record AreCalm (flat : Flat) (rank : ℕ → ℕ) (calm : Row) (old new : Valuation) : Type 0 where
  pub ranked : IsRanked flat rank
  pub old_settled : IsSettled flat old
  pub new_settled : IsSettled flat new
  pub old_allowed : AllowsRow calm old
  pub new_allowed : AllowsRow calm new

calm_cycle : (flat : Flat) (setup : Setup) (cycles : ℕ) (rank : ℕ → ℕ) (row : ℕ → Row) (word : ℕ → ℕ → Row)
    → IsChecked flat setup cycles rank row word
    → (choice : Choice) (v : ℕ → Valuation) (m : ℕ → Memory) → IsRun flat setup cycles choice v m
    → (t : ℕ) → t < cycles → (calm : Row) → IsCalm flat (row (before t)) (row t) calm → AreCalm flat rank calm (v (before t)) (v t)
calm_cycle flat setup cycles rank row word checked choice v m run t below calm still = record {
  ranked = checked.ranked;
  old_settled = run.settled (before t) earlier;
  new_settled = run.settled t below;
  old_allowed = record {
    each = row-allows flat rank calm (v (before t)) checked.ranked still.forced (run.settled (before t) earlier)
        (λ b none. subst (λ p. Allows p (v (before t) b)) (sym (still.leaves b none)) (both-allows (row (before t) b) (row t b) (v (before t) b) (inl (known_old b))));
  };
  new_allowed = record {
    each = row-allows flat rank calm (v t) checked.ranked still.forced (run.settled t below)
        (λ b none. subst (λ p. Allows p (v t b)) (sym (still.leaves b none)) (both-allows (row (before t) b) (row t b) (v t b) (inr (known_new b))));
  };
}
  where
    earlier : before t < cycles
    earlier = before_below t cycles below

    known_old : (b : ℕ) → Allows (row (before t) b) (v (before t) b)
    known_old = (known_run flat setup cycles rank row word checked choice v m run (before t) earlier).bits

    known_new : (b : ℕ) → Allows (row t b) (v t b)
    known_new = (known_run flat setup cycles rank row word checked choice v m run t below).bits

pub calm_law : CalmLaw
unfolding CalmLaw
calm_law flat setup cycles sim choice v m run t below calm still events b x h =
    let a = calm_cycle flat setup cycles sim.rank sim.row sim.word sim.is choice v m run t below calm still in
    waveform-calm flat (sim.row (before t)) (sim.row t) calm still (v t) (v (before t)) a.new_allowed a.old_allowed events b x h

-- two values that a known part allows are one
pub allowed_once : (p : Part) (x y : Bool) → p ≢ Vary → Allows p x → Allows p y → x ≡ y
allowed_once Zero x y known a b = a ∙ sym b
allowed_once One x y known a b = a ∙ sym b
allowed_once Vary x y known a b = absurd (known refl)

pub vary_or_not : (p : Part) → (p ≡ Vary) ⊎ (p ≢ Vary)
vary_or_not Zero = inr (λ e. cc)
vary_or_not One = inr (λ e. cc)
vary_or_not Vary = inl refl

-- a bit that stands at a place is a member
pub member_at : (ws : List Wire) (place n : ℕ) → get_or ws place (Const false) ≡ Bit n → Contains ws (Bit n)
member_at [] place n e = absurd cc
member_at (w ∷ ws) zero n e = subst (Contains (w ∷ ws)) e (Contains-here w ws)
member_at (w ∷ ws) (suc place) n e = Contains-later w (Bit n) ws (member_at ws place n e)

-- the bits whose reached leaves are all good
abbrev pub ReachesGood : Flat → Row → (ℕ → Type 0) → ℕ → Type 0
ReachesGood flat calm good b = (leaf : ℕ) → Reaches flat calm leaf b → good leaf

-- a wire that varies is a bit
pub vary_bit : (row : Row) (w : Wire) → wire_part row w ≡ Vary → (n : ℕ) × (w ≡ Bit n)
vary_bit row (Const false) e = absurd cc
vary_bit row (Const true) e = absurd cc
vary_bit row (Bit n) e = (n, refl)

-- a cell computes one value in two worlds that agree on the bits whose leaves are good, where its output is such a bit
same_cell : (flat : Flat) (old now calm : Row) → IsCalm flat old now calm → (good : ℕ → Type 0) (v w : Valuation) → AllowsRow calm v
    → AllowsRow calm w
    → (c : FlatCell) → Contains flat.cells c → ReachesGood flat calm good c.output
    → ((b : ℕ) → Contains (wires_of c) (Bit b) → ReachesGood flat calm good b → v b ≡ w b) → cell_value v c ≡ cell_value w c
same_cell flat old now calm still good v w allows_v allows_w c listed reaches same = go (vary_or_not (calm c.output))
  where
    go : (calm c.output ≡ Vary) ⊎ (calm c.output ≢ Vary) → cell_value v c ≡ cell_value w c
    go (inr known) =
        allowed_once (calm c.output) _ _ known (cell-allows flat old now calm still v allows_v c listed)
        (cell-allows flat old now calm still w allows_w c listed)
    go (inl varies) = live_decide (output_of c.kind) (cell_parts calm c) (map (wire_value v) (wires_of c)) (map (wire_value w) (wires_of c))
        (wires-allow calm v (wires_of c) (λ b h. allows_v.each b)) (wires-allow calm w (wires_of c) (λ b h. allows_w.each b)) at_place
      where
        at_place : (place : ℕ) → IsLivePlace (output_of c.kind) (cell_parts calm c) place
            → get_or (map (wire_value v) (wires_of c)) place false ≡ get_or (map (wire_value w) (wires_of c)) place false
        at_place place live =
            let part : wire_part calm (get_or (wires_of c) place (Const false)) ≡ Vary =
            sym (get_or-map (wire_part calm) (wires_of c) place (Const false)) ∙ live.varies in
            let bit = vary_bit calm (get_or (wires_of c) place (Const false)) part in
            get_or-map (wire_value v) (wires_of c) place (Const false) ∙ ap (wire_value v) bit.1 ∙ here bit.0 bit.1 live
            ∙ sym (ap (wire_value w) bit.1) ∙ sym (get_or-map (wire_value w) (wires_of c) place (Const false))
          where
            here : (n : ℕ) → get_or (wires_of c) place (Const false) ≡ Bit n → IsLivePlace (output_of c.kind) (cell_parts calm c) place
                → v n ≡ w n
            here n is live =
                same n (member_at (wires_of c) place n is) (λ leaf walk. reaches leaf (through c.output c place n listed refl varies
                (live_input c.kind (cell_parts calm c) place live) is walk))

-- two worlds that a row allows, which agree on the bits whose leaves are good
pub record AreAlike (calm : Row) (agreed : ℕ → Type 0) (v w : Valuation) : Type 0 where
  pub left : AllowsRow calm v
  pub right : AllowsRow calm w
  pub same : (b : ℕ) → agreed b → v b ≡ w b

-- settled valuations that agree on the good leaves are alike
settled_alike : (flat : Flat) (rank : ℕ → ℕ) (old now calm : Row) → IsCalm flat old now calm → IsRanked flat rank
    → (good : ℕ → Type 0) (v w : Valuation)
    → IsSettled flat v → IsSettled flat w → AllowsRow calm v → AllowsRow calm w → ((b : ℕ) → good b → v b ≡ w b)
    → AreAlike calm (ReachesGood flat calm good) v w
settled_alike flat rank old now calm still ranked good v w settled_v settled_w allows_v allows_w good_same = record {
  left = allows_v;
  right = allows_w;
  same = by_rank flat rank (λ b. ReachesGood flat calm good b → v b ≡ w b) ranked leaves (record { cells = cells });
}
  where
    leaves : (b : ℕ) → (IsCellBit flat b → ⊥) → ReachesGood flat calm good b → v b ≡ w b
    leaves b none reaches = go (vary_or_not (calm b))
      where
        go : (calm b ≡ Vary) ⊎ (calm b ≢ Vary) → v b ≡ w b
        go (inl varies) = good_same b (reaches b (here none varies))
        go (inr known) = allowed_once (calm b) (v b) (w b) known (allows_v.each b) (allows_w.each b)

    cells : (c : FlatCell) → Contains flat.cells c → ((b : ℕ) → Contains (wires_of c) (Bit b) → ReachesGood flat calm good b → v b ≡ w b)
        → ReachesGood flat calm good c.output → v c.output ≡ w c.output
    cells c listed same reaches =
        settled_v.cells c listed ∙ same_cell flat old now calm still good v w allows_v allows_w c listed reaches same
        ∙ sym (settled_w.cells c listed)

put-same : (P : ℕ → Type 0) (v w : Valuation) (bit : ℕ) (x y : Bool) → (P bit → x ≡ y) → ((b : ℕ) → P b → v b ≡ w b) → (b : ℕ) → P b
    → put v bit x b ≡ put w bit y b
put-same P v w bit x y new old b h = go (cases_Bool (nat_eq b bit))
  where
    go : (nat_eq b bit ≡ true) ⊎ (nat_eq b bit ≡ false) → put v bit x b ≡ put w bit y b
    go (inl e) = subst (λ t. cond t x (v b) ≡ cond t y (w b)) (sym e) (new (subst P (eqb-true b bit e) h))
    go (inr e) = subst (λ t. cond t x (v b) ≡ cond t y (w b)) (sym e) (old b h)

event-alike : (flat : Flat) (old now calm : Row) → IsCalm flat old now calm → (good : ℕ → Type 0) (new_v new_w v w : Valuation)
    → AreAlike calm (ReachesGood flat calm good) new_v new_w → AreAlike calm (ReachesGood flat calm good) v w → (e : Event)
    → AreAlike calm (ReachesGood flat calm good) (after_event flat new_v v e) (after_event flat new_w w e)
event-alike flat old now calm still good new_v new_w v w new alike (leaf bit) = record {
  left = event-calm flat old now calm still new_v v new.left alike.left (leaf bit);
  right = event-calm flat old now calm still new_w w new.right alike.right (leaf bit);
  same = put-same (ReachesGood flat calm good) v w bit (new_v bit) (new_w bit) (new.same bit) alike.same;
}
event-alike flat old now calm still good new_v new_w v w new alike (cell index) = record {
  left = event-calm flat old now calm still new_v v new.left alike.left (cell index);
  right = event-calm flat old now calm still new_w w new.right alike.right (cell index);
  same = go (slice_get flat.cells index) refl;
}
  where
    go : (o : Option FlatCell) → slice_get flat.cells index ≡ o → (b : ℕ) → ReachesGood flat calm good b → put_cell v o b ≡ put_cell w o b
    go None is = alike.same
    go (Some c) is = put-same (ReachesGood flat calm good) v w c.output (cell_value v c) (cell_value w c)
        (λ reaches. same_cell flat old now calm still good v w alike.left alike.right c (member_of_place flat.cells index c is) reaches (λ b read. alike.same b)) alike.same

waveform-alike : (flat : Flat) (old now calm : Row) → IsCalm flat old now calm → (good : ℕ → Type 0) (new_v new_w v w : Valuation)
    → AreAlike calm (ReachesGood flat calm good) new_v new_w → AreAlike calm (ReachesGood flat calm good) v w
    → (b : ℕ) → ReachesGood flat calm good b → (events : List Event) → waveform flat new_v b v events ≡ waveform flat new_w b w events
waveform-alike flat old now calm still good new_v new_w v w new alike b reaches [] = ap (λ x. x ∷ []) (alike.same b reaches)
waveform-alike flat old now calm still good new_v new_w v w new alike b reaches (e ∷ es) =
    let head : v b ≡ w b = alike.same b reaches in
    let tail = waveform-alike flat old now calm still good new_v new_w (after_event flat new_v v e) (after_event flat new_w w e) new
    (event-alike flat old now calm still good new_v new_w v w new alike e) b reaches es in
    ap (λ x. x ∷ waveform flat new_v b (after_event flat new_v v e) es) head ∙ ap (λ rest. w b ∷ rest) tail

pub waveform_law : WaveformLaw
unfolding WaveformLaw
waveform_law flat setup cycles sim one other v w m n run_v run_w t below calm still b agree events =
    waveform-alike flat (sim.row (before t)) (sim.row t) calm still good (v t) (w t) (v (before t))
    (w (before t)) new old b (λ leaf walk. agree leaf walk) events
  where
    good : ℕ → Type 0
    good seen = (v (before t) seen ≡ w (before t) seen) × (v t seen ≡ w t seen)

    left : AreCalm flat sim.rank calm (v (before t)) (v t)
    left = calm_cycle flat setup cycles sim.rank sim.row sim.word sim.is one v m run_v t below calm still

    right : AreCalm flat sim.rank calm (w (before t)) (w t)
    right = calm_cycle flat setup cycles sim.rank sim.row sim.word sim.is other w n run_w t below calm still

    old : AreAlike calm (ReachesGood flat calm good) (v (before t)) (w (before t))
    old = settled_alike flat sim.rank (sim.row (before t)) (sim.row t) calm still sim.is.ranked good (v (before t)) (w (before t))
        left.old_settled right.old_settled left.old_allowed right.old_allowed (λ leaf h. h.0)

    new : AreAlike calm (ReachesGood flat calm good) (v t) (w t)
    new = settled_alike flat sim.rank (sim.row (before t)) (sim.row t) calm still sim.is.ranked good (v t) (w t)
        left.new_settled right.new_settled left.new_allowed right.new_allowed (λ leaf h. h.1)
