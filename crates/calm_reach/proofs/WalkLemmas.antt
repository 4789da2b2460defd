-- Walks against the wires: what a look at a bit adds, and that nothing is left out in the end.
use Rattle.std.proofs.Common.{◌≡◌, ℕ, zero, suc, ◌+◌, ◌<◌, ◌≤◌, ◌⊎◌, inl, inr, Bool, true, false, not, cond, ◌||◌, nat_eq, nat_cmp, List, [], ◌∷◌, ◌++◌, length, get_or, refl, sym, ◌∙◌, ap, subst, arith}
use Rattle.std.specs.Prelude.{Contains, slice_get, Some, ◌↔◌, if◌then◌else◌, IsTrue, Result, Ok, Err, OnOk, IfOk}
use Rattle.std.specs.List.{list_any, IsDistinct}
use Rattle.std.specs.List.Sorted.{IsStrictlyIncreasing}
use Rattle.std.proofs.lemmas.Bool.{cases_order, cases_lt, eqb-true, eq-eqb}
use Rattle.std.proofs.lemmas.List.{get_or_past}
use Rattle.std.proofs.lemmas.List.Elements.{Contains-get_or}
use Rattle.std.proofs.lemmas.Map.Steps.{length-le_from_distinct_below}
use Rattle.std.proofs.lemmas.Map.Views.{btree_set_contains_iff}
use Rattle.std.proofs.lemmas.Map.Lookups.{exact_unsigned}
use Rattle.std.specs.Cmp.{unsigned_tied}
use Rattle.std.proofs.lemmas.Cmp.{nat_cmp_total}
use Rattle.std.specs.BTreeSet.{BTreeSet, Updates, contains}
use Rattle.std.specs.BTreeMap.{is_at}
use Rattle.indexmap.specs.IndexSet.{insert_key}
use Rattle.coco_base.specs.declared.netlist.Flat.{Flat}
use Rattle.coco_base.specs.declared.netlist.FlatCell.{FlatCell}
use Rattle.coco_base.specs.declared.netlist.Wire.{Wire}
use Rattle.coco_base.specs.declared.netlist.Wire.TheVariants.{Const, Bit}
use Rattle.coco_base.specs.declared.cell.Part.TheVariants.{Vary}
use Rattle.coco_model.specs.Netlist.{wires_of, IsCellBit, IsInRange, HasOneDriver}
use Rattle.coco_model.specs.Reach.{Reaches}
use Rattle.coco_model.specs.Reach.Reaches.{here, through}
use Rattle.coco_model.proofs.Basics.{Contains-here, Contains-later, Contains-cases, Contains-none}
use Rattle.model_laws.proofs.Lists.{place_of_member, member_of_place}
use Rattle.gate_graph.specs.declared.driver.Driver.{Driver}
use Rattle.gate_graph.specs.declared.driver.Driver.TheVariants.{Port, Cell, Flop, Nothing}
use Rattle.gate_graph.specs.Graphs.{Gates, IsBuilt, rank_in}
use Rattle.gate_graph.specs.Drivers.{IsDriver, IsCellOutput}
use Rattle.gate_graph.specs.Ranks.{output_rank}
use Rattle.gate_graph.proofs.LevelLemmas.{cell_bit}
use Rattle.gate_graph.proofs.StepLemmas.{no_cell_by}
use Rattle.gate_graph.proofs.Items.{place_below, same_at, some_at, get_at}
use Rattle.calm_reach.specs.CalmRows.{Calmness, calm_of, is_live, AreLiveInputs}
use Rattle.calm_reach.specs.Walks.{HasLiveBit, Feeds, IsLeafBit, LeadsTo, AreLeavesOf, AreReachedLeaves, IsOnWalk, AreWalked, IsPartWalk, AddsFeeding, AddsBit, AddsWire, AddsInputs, AreLeavesAmong, IsCellDriver}
use Rattle.calm_reach.specs.Walks.LeadsTo.{ends, goes}
use Rattle.calm_reach.specs.Walks.IsOnWalk.{starts, follows}
use Rattle.calm_reach.proofs.ForcingLemmas.{output_ranked}

-- members and places
pub member_of_any : (x : ℕ) (xs : List ℕ) → list_any (nat_eq x) xs ≡ true → Contains xs x
member_of_any x [] h = absurd cc
member_of_any x (y ∷ ys) h = go (nat_eq x y) refl h (member_of_any x ys)
  where
    go : (b : Bool) → nat_eq x y ≡ b → (b || list_any (nat_eq x) ys) ≡ true → (list_any (nat_eq x) ys ≡ true → Contains ys x)
        → Contains (y ∷ ys) x
    go true e f rest = subst (Contains (y ∷ ys)) (sym (eqb-true x y e)) (Contains-here y ys)
    go false e f rest = Contains-later y x ys (rest f)

pub pushed : (xs : List ℕ) (x y : ℕ) → Contains (xs ++ x ∷ []) y → Contains xs y ⊎ (y ≡ x)
pushed [] x y h = go (Contains-cases x y [] h)
  where
    go : (x ≡ y) ⊎ Contains [] y → Contains [] y ⊎ (y ≡ x)
    go (inl e) = inr (sym e)
    go (inr n) = inl n
pushed (z ∷ zs) x y h = go (Contains-cases z y (zs ++ x ∷ []) h) (pushed zs x y)
  where
    go : (z ≡ y) ⊎ Contains (zs ++ x ∷ []) y → (Contains (zs ++ x ∷ []) y → Contains zs y ⊎ (y ≡ x)) → Contains (z ∷ zs) y ⊎ (y ≡ x)
    go (inl e) rest = inl (subst (Contains (z ∷ zs)) e (Contains-here z zs))
    go (inr m) rest = later (rest m)
      where
        later : Contains zs y ⊎ (y ≡ x) → Contains (z ∷ zs) y ⊎ (y ≡ x)
        later (inl c) = inl (Contains-later z y zs c)
        later (inr e) = inr e

pub last_member : (xs : List ℕ) (x : ℕ) → Contains (xs ++ x ∷ []) x
last_member [] x = Contains-here x []
last_member (y ∷ ys) x = Contains-later y x (ys ++ x ∷ []) (last_member ys x)

-- what stands in a list keeps its place in another
abbrev pub Keeps : List ℕ → List ℕ → Type 0
Keeps old new = (k b : ℕ) → slice_get old k ≡ Some b → slice_get new k ≡ Some b

pub keeps_members : (old new : List ℕ) → Keeps old new → (b : ℕ) → Contains old b → Contains new b
keeps_members old new kept b h = let p = place_of_member old b h in member_of_place new p.place b (kept p.place b p.at)

keeps_push : (xs : List ℕ) (x : ℕ) → Keeps xs (xs ++ x ∷ [])
keeps_push [] x k b at = absurd cc
keeps_push (y ∷ ys) x zero b at = at
keeps_push (y ∷ ys) x (suc k) b at = keeps_push ys x k b at

pub bit_added : (bit : ℕ) (old new : List ℕ) → new ≡ insert_key nat_eq old bit → AddsBit bit old new
bit_added bit old new e = go (list_any (nat_eq bit) old) refl e
  where
    go : (b : Bool) → list_any (nat_eq bit) old ≡ b → new ≡ (if b then old else old ++ bit ∷ []) → AddsBit bit old new
    go true there f = record {
      kept = λ k b at. subst (λ l. slice_get l k ≡ Some b) (sym f) at;
      sound = λ b h. inl (subst (λ l. Contains l b) f h);
      has = subst (λ l. Contains l bit) (sym f) (member_of_any bit old there);
    }
    go false absent f = record {
      kept = λ k b at. subst (λ l. slice_get l k ≡ Some b) (sym f) (keeps_push old bit k b at);
      sound = λ b h. pushed old bit b (subst (λ l. Contains l b) f h);
      has = subst (λ l. Contains l bit) (sym f) (last_member old bit);
    }

-- bits below a number of which none stands twice are no more than that number
pub few_met : (bits : List ℕ) (n : ℕ) → IsDistinct nat_eq bits → ((b : ℕ) → Contains bits b → b < n) → length bits ≤ n
few_met bits n distinct below = length-le_from_distinct_below bits n distinct (λ q h. below q (member_of_any q bits h))

-- the live inputs of a cell, input by input
pub record IsPartAdded (row : Calmness) (number : ℕ) (cell : FlatCell) (count : ℕ) (old new : List ℕ) : Type 0 where
  pub kept : Keeps old new
  pub sound : (b : ℕ) → Contains new b → Contains old b ⊎ HasLiveBit row number cell b
  pub all : (b : ℕ) (h : HasLiveBit row number cell b) → h.place < count → Contains new b

pub added_none : (row : Calmness) (number : ℕ) (cell : FlatCell) (old : List ℕ) → IsPartAdded row number cell 0 old old
added_none row number cell old = record { kept = λ k b at. at; sound = λ b h. inl h; all = λ b h low. absurd (omega (arith, low)) }

-- one input more: its wire was added, or it is not live
pub added_more : (row : Calmness) (number : ℕ) (cell : FlatCell) (place : ℕ) (wire : Wire) (old mid new : List ℕ)
    → wire ≡ get_or (wires_of cell) place (Const false) → is_live row number place ≡ true → AddsWire wire mid new
    → IsPartAdded row number cell place old mid → IsPartAdded row number cell (place + 1) old new
added_more row number cell place (Const x) old mid new is live e known = record {
  kept = λ k b at. subst (λ l. slice_get l k ≡ Some b) (sym e) (known.kept k b at);
  sound = λ b h. known.sound b (subst (λ l. Contains l b) e h);
  all = λ b h low. subst (λ l. Contains l b) (sym e) (known.all b h (other b h low (cases_order h.place place)));
}
  where
    other : (b : ℕ) (h : HasLiveBit row number cell b) → h.place < place + 1 → (h.place ≡ place) ⊎ ((h.place < place) ⊎ (place < h.place)) → h.place < place
    other b h low (inl same) = absurd (let f : Const x ≡ Bit b = is ∙ ap (λ p. get_or (wires_of cell) p (Const false)) (sym same) ∙ h.wire in cc)
    other b h low (inr (inl less)) = less
    other b h low (inr (inr more)) = absurd (omega (arith, low, more))
added_more row number cell place (Bit n) old mid new is live adds known = record {
  kept = λ k b at. adds.kept k b (known.kept k b at);
  sound = λ b h. sound b (adds.sound b h);
  all = λ b h low. all b h low (cases_order h.place place);
}
  where
    sound : (b : ℕ) → Contains mid b ⊎ (b ≡ n) → Contains old b ⊎ HasLiveBit row number cell b
    sound b (inl m) = known.sound b m
    sound b (inr e) = inr (record { place = place; live = live; wire = sym is ∙ ap Bit (sym e) })

    all : (b : ℕ) (h : HasLiveBit row number cell b) → h.place < place + 1 → (h.place ≡ place) ⊎ ((h.place < place) ⊎ (place < h.place)) → Contains new b
    all b h low (inl same) =
        let f : Bit n ≡ Bit b = is ∙ ap (λ p. get_or (wires_of cell) p (Const false)) (sym same) ∙ h.wire in
        let e : n ≡ b = cc in subst (Contains new) e adds.has
    all b h low (inr (inl less)) = keeps_members mid new adds.kept b (known.all b h less)
    all b h low (inr (inr more)) = absurd (omega (arith, low, more))

pub added_less : (row : Calmness) (number : ℕ) (cell : FlatCell) (place : ℕ) (old new : List ℕ) → is_live row number place ≡ false
    → IsPartAdded row number cell place old new → IsPartAdded row number cell (place + 1) old new
added_less row number cell place old new dead known = record {
  kept = known.kept;
  sound = known.sound;
  all = λ b h low. all b h low (cases_order h.place place);
}
  where
    all : (b : ℕ) (h : HasLiveBit row number cell b) → h.place < place + 1 → (h.place ≡ place) ⊎ ((h.place < place) ⊎ (place < h.place)) → Contains new b
    all b h low (inl same) = absurd (let f : false ≡ true = sym dead ∙ ap (is_live row number) (sym same) ∙ h.live in cc)
    all b h low (inr (inl less)) = known.all b h less
    all b h low (inr (inr more)) = absurd (omega (arith, low, more))

-- a place with a bit is one of the cell's inputs
read_inside : (ws : List Wire) (place b : ℕ) → get_or ws place (Const false) ≡ Bit b → place < length ws
read_inside ws place b e = go (cases_lt place (length ws))
  where
    go : (place < length ws) ⊎ (length ws ≤ place) → place < length ws
    go (inl low) = low
    go (inr high) = absurd (let f : Const false ≡ Bit b = sym (get_or_past ws place (Const false) high) ∙ e in cc)

pub added_all : (flat : Flat) (row : Calmness) (number : ℕ) (cell : FlatCell) (count : ℕ) (old new : List ℕ) → slice_get flat.cells number ≡ Some cell
    → length (wires_of cell) ≤ count → IsPartAdded row number cell count old new → AddsInputs flat row number old new
added_all flat row number cell count old new at high known = record {
  cell = cell;
  at = at;
  kept = known.kept;
  sound = known.sound;
  all = λ b h. known.all b h (let low = read_inside (wires_of cell) h.place b h.wire in omega (arith, low, high));
}

-- one number drives a bit
one_number : (gates : Gates) → IsBuilt gates → (m n : ℕ) (c d : FlatCell) → slice_get gates.flat.cells m ≡ Some c → slice_get gates.flat.cells n ≡ Some d
    → c.output ≡ d.output → m ≡ n
one_number gates built m n c d at_c at_d same =
    let j = place_of_member gates.order m (built.order.all m (place_below gates.flat.cells m c at_c)) in
    let k = place_of_member gates.order n (built.order.all n (place_below gates.flat.cells n d at_d)) in
    go j.place k.place j.at k.at (cases_order j.place k.place)
  where
    rank_same : output_rank gates.flat gates.ranks m ≡ output_rank gates.flat gates.ranks n
    rank_same = output_ranked gates m c at_c ∙ ap (rank_in gates) same ∙ sym (output_ranked gates n d at_d)

    apart : (j k a b : ℕ) → slice_get gates.order j ≡ Some a → slice_get gates.order k ≡ Some b → j < k
        → output_rank gates.flat gates.ranks a < output_rank gates.flat gates.ranks b
    apart j k a b at_j at_k less =
        let r = built.order.ascending j k less (place_below gates.order k b at_k) in
        let e = get_at gates.order j a 0 at_j in let f = get_at gates.order k b 0 at_k in
        subst (λ x. output_rank gates.flat gates.ranks x < output_rank gates.flat gates.ranks b) e
        (subst (λ y. output_rank gates.flat gates.ranks (get_or gates.order j 0) < output_rank gates.flat gates.ranks y) f r)

    go : (j k : ℕ) → slice_get gates.order j ≡ Some m → slice_get gates.order k ≡ Some n → (j ≡ k) ⊎ ((j < k) ⊎ (k < j)) → m ≡ n
    go j k at_j at_k (inl e) = let f : Some m ≡ Some n = sym at_j ∙ ap (slice_get gates.order) e ∙ at_k in cc
    go j k at_j at_k (inr (inl less)) = absurd (let r = apart j k m n at_j at_k less in let s = rank_same in omega (arith, r, s))
    go j k at_j at_k (inr (inr more)) = absurd (let r = apart k j n m at_k at_j more in let s = rank_same in omega (arith, r, s))

-- what feeds the output of the cell of a number
pub fed_by_cell : (gates : Gates) (row : Calmness) (bit number : ℕ) (old new : List ℕ) → IsBuilt gates → IsCellOutput gates.flat number bit
    → calm_of row bit ≡ Vary → AddsInputs gates.flat row number old new → AddsFeeding gates.flat row bit old new
fed_by_cell gates row bit number old new built drives varies adds = record {
  kept = adds.kept;
  sound = λ b h. sound b (adds.sound b h);
  all = λ from f. adds.all from (live from f);
}
  where
    same : drives.cell ≡ adds.cell
    same = same_at gates.flat.cells number drives.cell adds.cell drives.at adds.at

    sound : (b : ℕ) → Contains old b ⊎ HasLiveBit row number adds.cell b → Contains old b ⊎ Feeds gates.flat row b bit
    sound b (inl m) = inl m
    sound b (inr h) = inr (record { number = number; cell = adds.cell; at = adds.at; drives = ap (λ (c : FlatCell). c.output) (sym same) ∙ drives.drives; varies = varies; input = h })

    live : (from : ℕ) → Feeds gates.flat row from bit → HasLiveBit row number adds.cell from
    live from f =
        let e : f.number ≡ number = one_number gates built f.number number f.cell drives.cell f.at drives.at (f.drives ∙ sym drives.drives) in
        let g : f.cell ≡ adds.cell = same_at gates.flat.cells number f.cell adds.cell (subst (λ n. slice_get gates.flat.cells n ≡ Some f.cell) e f.at) adds.at in
        subst (λ n. HasLiveBit row n adds.cell from) e (subst (λ c. HasLiveBit row f.number c from) g f.input)

-- nothing feeds a bit that is calm, or that no cell drives
pub fed_by_none : (flat : Flat) (row : Calmness) (bit : ℕ) (old : List ℕ) → ((from : ℕ) → Feeds flat row from bit → ⊥) → AddsFeeding flat row bit old old
fed_by_none flat row bit old none = record { kept = λ k b at. at; sound = λ b h. inl h; all = λ from f. absurd (none from f) }

feeding_below : (flat : Flat) (row : Calmness) (from bit : ℕ) → IsInRange flat → Feeds flat row from bit → from < flat.bits
feeding_below flat row from bit range f =
    let low = read_inside (wires_of f.cell) f.input.place from f.input.wire in
    range.inputs f.cell (member_of_place flat.cells f.number f.cell f.at) (Bit from)
    (subst (Contains (wires_of f.cell)) f.input.wire (Contains-get_or (wires_of f.cell) f.input.place (Const false) low))

-- the walk, bit by bit
pub walk_begins : (flat : Flat) (row : Calmness) (start : ℕ) (bits : List ℕ) → start < flat.bits → AddsBit start [] bits → IsPartWalk flat row start bits 0
walk_begins flat row start bits low adds = record {
  first = adds.has;
  sound = λ b h. subst (IsOnWalk flat row start) (sym (only b (adds.sound b h))) starts;
  below = λ b h. subst (λ n. n < flat.bits) (sym (only b (adds.sound b h))) low;
  closed = λ k b h at. absurd (omega (arith, h));
}
  where
    only : (b : ℕ) → Contains [] b ⊎ (b ≡ start) → b ≡ start
    only b (inl n) = absurd (Contains-none b n)
    only b (inr e) = e

pub walk_goes : (flat : Flat) (row : Calmness) (start bit looked : ℕ) (old new : List ℕ) → IsInRange flat → slice_get old looked ≡ Some bit
    → AddsFeeding flat row bit old new → IsPartWalk flat row start old looked → IsPartWalk flat row start new (looked + 1)
walk_goes flat row start bit looked old new range at adds known = record {
  first = keeps_members old new adds.kept start known.first;
  sound = λ b h. sound b (adds.sound b h);
  below = λ b h. below b (adds.sound b h);
  closed = λ k b h at_k from f. closed k b h at_k from f (cases_order k looked);
}
  where
    sound : (b : ℕ) → Contains old b ⊎ Feeds flat row b bit → IsOnWalk flat row start b
    sound b (inl m) = known.sound b m
    sound b (inr f) = follows bit b f (known.sound bit (member_of_place old looked bit at))

    below : (b : ℕ) → Contains old b ⊎ Feeds flat row b bit → b < flat.bits
    below b (inl m) = known.below b m
    below b (inr f) = feeding_below flat row b bit range f

    closed : (k b : ℕ) → k < looked + 1 → slice_get new k ≡ Some b → (from : ℕ) → Feeds flat row from b → (k ≡ looked) ⊎ ((k < looked) ⊎ (looked < k)) → Contains new from
    closed k b h at_k from f (inl e) =
        let g : Some b ≡ Some bit = sym at_k ∙ ap (slice_get new) e ∙ adds.kept looked bit at in
        let same : b ≡ bit = cc in adds.all from (subst (Feeds flat row from) same f)
    closed k b h at_k from f (inr (inl less)) =
        let inside = place_below old looked bit at in
        let old_at : slice_get old k ≡ Some (get_or old k 0) = some_at old k 0 (omega (arith, less, inside)) in
        let g : Some b ≡ Some (get_or old k 0) = sym at_k ∙ adds.kept k (get_or old k 0) old_at in
        let same : b ≡ get_or old k 0 = cc in
        keeps_members old new adds.kept from (known.closed k b less (subst (λ x. slice_get old k ≡ Some x) (sym same) old_at) from f)
    closed k b h at_k from f (inr (inr more)) = absurd (omega (arith, h, more))

pub walk_ends : (flat : Flat) (row : Calmness) (start looked : ℕ) (bits : List ℕ) → length bits ≤ looked → IsPartWalk flat row start bits looked
    → AreWalked flat row start bits
walk_ends flat row start looked bits high known b = (known.sound b, from b)
  where
    from : (c : ℕ) → IsOnWalk flat row start c → Contains bits c
    from c (starts) = known.first
    from c (follows bit c' f w) =
        let p = place_of_member bits bit (from bit w) in
        known.closed p.place bit (let low = place_below bits p.place bit p.at in omega (arith, low, high)) p.at c f

-- leaves among bits
pub record IsPartLeaves (flat : Flat) (row : Calmness) (bits : List ℕ) (count : ℕ) (leaves : List ℕ) : Type 0 where
  pub sound : (b : ℕ) → Contains leaves b → Contains bits b × IsLeafBit flat row b
  pub all : (k b : ℕ) → k < count → slice_get bits k ≡ Some b → IsLeafBit flat row b → Contains leaves b

-- the bits on walks that are leaves are those to which walks lead
pub leads_from : (flat : Flat) (row : Calmness) (start leaf b : ℕ) → IsOnWalk flat row start b → LeadsTo flat row leaf b → LeadsTo flat row leaf start
leads_from flat row start leaf b (starts) l = l
leads_from flat row start leaf b (follows bit b' f w) l = leads_from flat row start leaf bit w (goes bit b f l)

pub walked_to : (flat : Flat) (row : Calmness) (start leaf b : ℕ) → LeadsTo flat row leaf b → IsOnWalk flat row start b → IsOnWalk flat row start leaf × IsLeafBit flat row leaf
walked_to flat row start leaf b (ends l) w = (w, l)
walked_to flat row start leaf b (goes b' from f rest) w = walked_to flat row start leaf from rest (follows b from f w)

pub leaves_are : (flat : Flat) (row : Calmness) (start : ℕ) (bits leaves : List ℕ) → AreWalked flat row start bits → AreLeavesAmong flat row bits leaves
    → AreLeavesOf flat row start leaves
leaves_are flat row start bits leaves walked among = record {
  ascending = among.ascending;
  each = λ leaf. (
    (λ h. let m = (among.each leaf).0 h in leads_from flat row start leaf leaf ((walked leaf).0 m.0) (ends m.1)),
    (λ l. let w = walked_to flat row start leaf start l starts in (among.each leaf).1 ((walked leaf).1 w.0, w.1)),
  );
}

reaches_to : (flat : Flat) (row : Calmness) (leaf b : ℕ) → AreLiveInputs flat row → LeadsTo flat row leaf b → Reaches flat (calm_of row) leaf b
reaches_to flat row leaf b live (ends l) = here l.no_cell l.varies
reaches_to flat row leaf b live (goes b' from f rest) =
    through b f.cell f.input.place from (member_of_place flat.cells f.number f.cell f.at) f.drives f.varies
    ((live.each f.number f.cell f.at f.input.place).0 f.input.live) f.input.wire (reaches_to flat row leaf from live rest)

leads_back : (flat : Flat) (row : Calmness) (leaf b : ℕ) → AreLiveInputs flat row → Reaches flat (calm_of row) leaf b → LeadsTo flat row leaf b
leads_back flat row leaf b live (here none varies) = ends (record { no_cell = none; varies = varies })
leads_back flat row leaf b live (through b' cell place from listed drives varies is_live_at wire rest) =
    let p = place_of_member flat.cells cell listed in
    goes b from (record {
      number = p.place;
      cell = cell;
      at = p.at;
      drives = drives;
      varies = varies;
      input = record { place = place; live = (live.each p.place cell p.at place).1 is_live_at; wire = wire };
    }) (leads_back flat row leaf from live rest)

pub reached_are : (flat : Flat) (row : Calmness) (start : ℕ) (leaves : List ℕ) → AreLeavesOf flat row start leaves → AreReachedLeaves flat row start leaves
reached_are flat row start leaves of live leaf = (
  (λ h. reaches_to flat row leaf start live ((of.each leaf).0 h)),
  (λ r. (of.each leaf).1 (leads_back flat row leaf start live r)),
)

-- the end of a list
pub past_end : (xs : List ℕ) (i : ℕ) → ((x : ℕ) → slice_get xs i ≡ Some x → ⊥) → length xs ≤ i
past_end xs i none = go (cases_lt i (length xs))
  where
    go : (i < length xs) ⊎ (length xs ≤ i) → length xs ≤ i
    go (inl low) = absurd (none (get_or xs i 0) (some_at xs i 0 low))
    go (inr high) = high

pub on_ok : {T E : Type 0} (r : Result T E) (P Q : Type 0) → (P → Q) → OnOk r P → OnOk r Q
on_ok (Ok x) P Q f h = f h
on_ok (Err e) P Q f h = tt

-- whether a bit that is not calm is a leaf, by its driver
is_cell_bit : (flat : Flat) (bit : ℕ) (d : Driver) → IsDriver flat bit d → IsCellDriver d → IsCellBit flat bit
is_cell_bit flat bit (Port p) is h = absurd h
is_cell_bit flat bit (Cell i) is h = cell_bit flat is.cell bit (member_of_place flat.cells i is.cell is.at) is.drives
is_cell_bit flat bit (Flop f) is h = absurd h
is_cell_bit flat bit Nothing is h = absurd h

pub leaf_test : (flat : Flat) (row : Calmness) (bit : ℕ) (d : Driver) (b : Bool) → HasOneDriver flat → calm_of row bit ≡ Vary → IsDriver flat bit d
    → IsTrue b ↔ IsCellDriver d → IsTrue (not b) ↔ IsLeafBit flat row bit
leaf_test flat row bit d true one varying is cell =
    ((λ h. absurd (let f : false ≡ true = h in cc)), (λ l. absurd (l.no_cell (is_cell_bit flat bit d is (cell.0 refl)))))
leaf_test flat row bit d false one varying is cell = (
  (λ h. record {
    no_cell = no_cell_by flat one bit d is (λ i e. let f : false ≡ true = cell.1 (subst IsCellDriver (sym e) tt) in cc);
    varies = varying;
  }),
  (λ l. refl),
)

-- no cell drives the bit, so nothing feeds it
pub no_cell_feeds : (flat : Flat) (row : Calmness) (bit : ℕ) (d : Driver) → HasOneDriver flat → IsDriver flat bit d → ((i : ℕ) → d ≡ Cell i → ⊥)
    → (from : ℕ) → Feeds flat row from bit → ⊥
no_cell_feeds flat row bit d one is other from f =
    no_cell_by flat one bit d is other (cell_bit flat f.cell bit (member_of_place flat.cells f.number f.cell f.at) f.drives)

-- leaves among bits, bit by bit
pub leaves_none : (flat : Flat) (row : Calmness) (bits leaves : List ℕ) → leaves ≡ [] → IsPartLeaves flat row bits 0 leaves
leaves_none flat row bits leaves e = record {
  sound = λ b h. absurd (Contains-none b (subst (λ l. Contains l b) e h));
  all = λ k b h at l. absurd (omega (arith, h));
}

one_more : (flat : Flat) (row : Calmness) (bits : List ℕ) (place bit : ℕ) (old new : List ℕ) → slice_get bits place ≡ Some bit
    → ((b : ℕ) → Contains old b → Contains new b) → (IsLeafBit flat row bit → Contains new bit)
    → IsPartLeaves flat row bits place old → (k b : ℕ) → k < place + 1 → slice_get bits k ≡ Some b → IsLeafBit flat row b → Contains new b
one_more flat row bits place bit old new at kept own known k b h at_k l = go (cases_order k place)
  where
    go : (k ≡ place) ⊎ ((k < place) ⊎ (place < k)) → Contains new b
    go (inl e) =
        let f : Some b ≡ Some bit = sym at_k ∙ ap (slice_get bits) e ∙ at in let same : b ≡ bit = cc in
        subst (Contains new) (sym same) (own (subst (IsLeafBit flat row) same l))
    go (inr (inl less)) = kept b (known.all k b less at_k l)
    go (inr (inr more)) = absurd (omega (arith, h, more))

pub leaves_more : (flat : Flat) (row : Calmness) (bits : List ℕ) (place bit : ℕ) (old new : List ℕ) → slice_get bits place ≡ Some bit
    → IsLeafBit flat row bit → ((b : ℕ) → Contains new b ↔ (Contains old b ⊎ (b ≡ bit)))
    → IsPartLeaves flat row bits place old → IsPartLeaves flat row bits (place + 1) new
leaves_more flat row bits place bit old new at leaf adds known = record {
  sound = λ b h. sound b ((adds b).0 h);
  all = one_more flat row bits place bit old new at (λ b h. (adds b).1 (inl h)) (λ l. (adds bit).1 (inr refl)) known;
}
  where
    sound : (b : ℕ) → Contains old b ⊎ (b ≡ bit) → Contains bits b × IsLeafBit flat row b
    sound b (inl m) = known.sound b m
    sound b (inr e) = (subst (Contains bits) (sym e) (member_of_place bits place bit at), subst (IsLeafBit flat row) (sym e) leaf)

pub leaves_same : (flat : Flat) (row : Calmness) (bits : List ℕ) (place bit : ℕ) (old : List ℕ) → slice_get bits place ≡ Some bit
    → (IsLeafBit flat row bit → ⊥) → IsPartLeaves flat row bits place old → IsPartLeaves flat row bits (place + 1) old
leaves_same flat row bits place bit old at none known = record {
  sound = known.sound;
  all = one_more flat row bits place bit old old at (λ b h. h) (λ l. absurd (none l)) known;
}

pub leaves_all : (flat : Flat) (row : Calmness) (bits leaves list : List ℕ) (place : ℕ) → length bits ≤ place → IsPartLeaves flat row bits place leaves
    → list ≡ leaves → IsStrictlyIncreasing list → AreLeavesAmong flat row bits list
leaves_all flat row bits leaves list place high known e up = record {
  ascending = up;
  each = λ b. (
    (λ h. known.sound b (subst (λ l. Contains l b) e h)),
    (λ h. let p = place_of_member bits b h.0 in
        subst (λ l. Contains l b) (sym e) (known.all p.place b (let low = place_below bits p.place b p.at in omega (arith, low, high)) p.at h.1)),
  );
}

-- a set with one key more
pub key_added : (s n : BTreeSet ℕ) (k : ℕ) → Updates nat_cmp s n k true → (q : ℕ) → Contains n.keys q ↔ (Contains s.keys q ⊎ (q ≡ k))
key_added s n k u q = go (is_at (nat_cmp k) q) refl
  where
    new_has : IsTrue (contains nat_cmp n q) ↔ Contains n.keys q
    new_has = btree_set_contains_iff nat_cmp_total exact_unsigned n q

    old_has : IsTrue (contains nat_cmp s q) ↔ Contains s.keys q
    old_has = btree_set_contains_iff nat_cmp_total exact_unsigned s q

    drop_right : Contains s.keys q ⊎ (q ≡ k) → (q ≡ k → ⊥) → Contains s.keys q
    drop_right (inl m) apart = m
    drop_right (inr e) apart = absurd (apart e)

    go : (b : Bool) → is_at (nat_cmp k) q ≡ b → Contains n.keys q ↔ (Contains s.keys q ⊎ (q ≡ k))
    go true e =
        let same : k ≡ q = eqb-true k q (sym (unsigned_tied k q) ∙ e) in
        ((λ h. inr (sym same)), (λ h. new_has.0 (u.0 q ∙ ap (λ b. cond b true (contains nat_cmp s q)) e)))
    go false e =
        let apart : q ≡ k → ⊥ = λ same. let f : false ≡ true = sym e ∙ unsigned_tied k q ∙ eq-eqb k q (sym same) in cc in
        let same : contains nat_cmp n q ≡ contains nat_cmp s q = u.2 q e in
        ((λ h. inl (old_has.0 (sym same ∙ new_has.1 h))), (λ h. new_has.0 (same ∙ old_has.1 (drop_right h apart))))

-- what follows from a fact of a result
pub one_ok : {T E : Type 0} (r : Result T E) (P Q : T → Type 0) → ((x : T) → P x → Q x) → IfOk r P → IfOk r Q
one_ok (Ok x) P Q f p = f x p
one_ok (Err e) P Q f p = tt
