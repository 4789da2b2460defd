-- The words of the memory as one list of their bits.
use Rattle.std.proofs.Common.{◌≡◌, ◌≢◌, ℕ, zero, suc, ◌+◌, ◌-◌, ◌*◌, ◌/◌, ◌<◌, ◌≤◌, ◌⊎◌, inl, inr, Bool, true, false, cond, ◌&&◌, nat_eq, List, [], ◌∷◌, length, get_or, set, drop, refl, sym, ◌∙◌, ap, subst, arith}
use Rattle.std.proofs.lemmas.Bool.{cases_eq, cases_order, ne_eqb, eq-eqb, eqb-true, lt-ltb, le-ltb}
use Rattle.std.proofs.lemmas.List.{get_or-set_same, get_or-set_other, length-replicate}
use Rattle.std.specs.Prelude.{replicate}
use Rattle.std.proofs.Math.ListN.{length-set}
use Rattle.coco_base.specs.declared.cell.Part.{Part}
use Rattle.coco_base.specs.declared.cell.Part.TheVariants.{Zero}
use Rattle.coco_base.specs.declared.labels.LabelTable.{LabelTable}
use Rattle.coco_base.specs.declared.netlist.Wire.TheVariants.{Const}
use Rattle.coco_base.specs.declared.setup.MemPlan.{MemPlan}
use Rattle.coco_base.specs.declared.setup.Start.{Start}
use Rattle.coco_base.specs.declared.setup.Start.TheVariants.{Public}
use Rattle.coco_base.specs.declared.setup.WordPlan.{WordPlan}
use Rattle.coco_model.specs.Carried.{number_on, word_address, is_write, stored_word, start_state, start_word, word_start}
use Rattle.coco_model.specs.Controls.{IsInRegion}
use Rattle.coco_model.specs.Known.{Row, ones, parts, wire_part}
use Rattle.coco_model.specs.Netlist.{wire_value}
use Rattle.coco_model.specs.Setups.{IsWordAddress}
use Rattle.coco_model.specs.Stepped.{row_of}
use Rattle.cycle_sim.specs.Memories.{word_bits, word_place, word_part, HoldsWords, IsPlaced, port_part}

place_low : (a : ℕ) → a < 0x10000 → word_place a ≡ 32 * (a / 4)
place_low a h = ap (λ b. cond b (32 * (a / 4)) (32 * ((0x4000 + (a - 0x10000)) / 4))) (lt-ltb a 0x10000 h)

place_high : (a : ℕ) → 0x10000 ≤ a → word_place a ≡ 32 * ((0x4000 + (a - 0x10000)) / 4)
place_high a h = ap (λ b. cond b (32 * (a / 4)) (32 * ((0x4000 + (a - 0x10000)) / 4))) (le-ltb a 0x10000 h)

-- where the word at an address stands: in the first region or in the second
abbrev InText : ℕ → Type 0
InText a = (a < 0x4000) × (word_place a ≡ 8 * a)

abbrev InData : ℕ → Type 0
InData a = (0x10000 ≤ a) × (a < 0x11000) × (word_place a + 393216 ≡ 8 * a)

place_cases : (a : ℕ) → IsWordAddress a → InText a ⊎ InData a
place_cases a is = go is.inside
  where
    go : IsInRegion a → InText a ⊎ InData a
    go (inl low) = let e = place_low a (omega arith) in let f = is.aligned in inl (low, omega arith)
    go (inr high) = let e = place_high a high.0 in let f = is.aligned in let g = high.1 in let h = high.0 in inr (high.0, high.1, omega arith)

-- the bits of a word end within the list
pub word_ends : (a : ℕ) → IsWordAddress a → word_place a + 32 ≤ word_bits
word_ends a is = go (place_cases a is)
  where
    go : InText a ⊎ InData a → word_place a + 32 ≤ word_bits
    go (inl (low, e)) = let f = is.aligned in omega arith
    go (inr (above, high, e)) = let f = is.aligned in omega arith

-- words at different addresses are apart
pub words_apart : (a b k : ℕ) → IsWordAddress a → IsWordAddress b → a ≢ b → k < 32
    → (word_place b + k < word_place a) ⊎ (word_place a + 32 ≤ word_place b + k)
words_apart a b k is_a is_b n h = go (cases_order a b) (place_cases a is_a) (place_cases b is_b)
  where
    go : (a ≡ b) ⊎ ((a < b) ⊎ (b < a)) → InText a ⊎ InData a → InText b ⊎ InData b
        → (word_place b + k < word_place a) ⊎ (word_place a + 32 ≤ word_place b + k)
    go (inl e) x y = absurd (n e)
    go (inr (inl less)) (inl (low, e)) (inl (low_b, f)) = let p = is_a.aligned in let q = is_b.aligned in inr (omega arith)
    go (inr (inl less)) (inl (low, e)) (inr (above, high, f)) = let p = is_a.aligned in let q = is_b.aligned in inr (omega arith)
    go (inr (inl less)) (inr (above, high, e)) (inl (low, f)) = absurd (omega arith)
    go (inr (inl less)) (inr (above, high, e)) (inr (above_b, high_b, f)) = let p = is_a.aligned in let q = is_b.aligned in inr (omega arith)
    go (inr (inr more)) (inl (low, e)) (inl (low_b, f)) = let p = is_a.aligned in let q = is_b.aligned in inl (omega arith)
    go (inr (inr more)) (inl (low, e)) (inr (above, high, f)) = absurd (omega arith)
    go (inr (inr more)) (inr (above, high, e)) (inl (low, f)) = let p = is_a.aligned in let q = is_b.aligned in inl (omega arith)
    go (inr (inr more)) (inr (above, high, e)) (inr (above_b, high_b, f)) = let p = is_a.aligned in let q = is_b.aligned in inl (omega arith)

-- the word of an address of a region
pub region_word : (n : ℕ) → IsInRegion n → IsWordAddress (4 * (n / 4))
region_word n is = record { word = n / 4; aligned = refl; inside = go is }
  where
    go : IsInRegion n → IsInRegion (4 * (n / 4))
    go (inl low) = inl (omega arith)
    go (inr (above, high)) = inr (omega arith, omega arith)

pub word_region : (n : ℕ) → IsInRegion (4 * (n / 4)) → IsInRegion n
word_region n (inl low) = inl (omega arith)
word_region n (inr (above, high)) = inr (omega arith, omega arith)

-- an address and that of its word have one place
pub place_of_word : (n : ℕ) → IsInRegion n → word_place (4 * (n / 4)) ≡ word_place n
place_of_word n (inl low) = let e = place_low n (omega arith) in let f = place_low (4 * (n / 4)) (omega arith) in omega arith
place_of_word n (inr (above, high)) = let e = place_high n above in let f = place_high (4 * (n / 4)) (omega arith) in omega arith

-- one more part is placed
pub placed_none : (place : ℕ) (part : ℕ → Part) (old : List Part) → IsPlaced place 0 part old old
placed_none place part old = record { as_long = refl; inside = λ k h. absurd (omega arith); outside = λ i h. refl }

pub placed_more : (place count : ℕ) (part : ℕ → Part) (old mid : List Part) (x : Part) → x ≡ part count → place + count < length old
    → IsPlaced place count part old mid → IsPlaced place (count + 1) part old (set mid (place + count) x)
placed_more place count part old mid x is below so_far = record {
  as_long = length-set mid (place + count) x ∙ so_far.as_long;
  inside = λ k h. go k h (cases_order k count);
  outside = λ i h. outside i h;
}
  where
    long : place + count < length mid
    long = let l = so_far.as_long in omega arith

    other : (i : ℕ) → i ≢ place + count → row_of (set mid (place + count) x) i ≡ row_of mid i
    other i n = get_or-set_other mid (place + count) i x Zero n

    go : (k : ℕ) → k < count + 1 → (k ≡ count) ⊎ ((k < count) ⊎ (count < k)) → row_of (set mid (place + count) x) (place + k) ≡ part k
    go k h (inl e) =
        ap (λ j. row_of (set mid (place + count) x) (place + j)) e ∙ get_or-set_same mid (place + count) x Zero long ∙ is ∙ ap part (sym e)
    go k h (inr (inl less)) = other (place + k) (λ e. let f : place + k ≡ place + count = e in omega arith) ∙ so_far.inside k less
    go k h (inr (inr more)) = absurd (omega arith)

    outside : (i : ℕ) → (i < place) ⊎ (place + (count + 1) ≤ i) → row_of (set mid (place + count) x) i ≡ row_of old i
    outside i (inl low) = other i (λ e. let f : i ≡ place + count = e in omega arith) ∙ so_far.outside i (inl low)
    outside i (inr high) = other i (λ e. let f : i ≡ place + count = e in omega arith) ∙ so_far.outside i (inr (omega arith))

-- a part stays where it is placed as it was
pub placed_same : (place count : ℕ) (part : ℕ → Part) (old mid : List Part) → row_of old (place + count) ≡ part count
    → IsPlaced place count part old mid → IsPlaced place (count + 1) part old mid
placed_same place count part old mid is so_far = record {
  as_long = so_far.as_long;
  inside = λ k h. go k h (cases_order k count);
  outside = λ i h. outside i h;
}
  where
    go : (k : ℕ) → k < count + 1 → (k ≡ count) ⊎ ((k < count) ⊎ (count < k)) → row_of mid (place + k) ≡ part k
    go k h (inl e) =
        ap (λ j. row_of mid (place + j)) e ∙ so_far.outside (place + count) (inr (omega arith)) ∙ is ∙ ap part (sym e)
    go k h (inr (inl less)) = so_far.inside k less
    go k h (inr (inr more)) = absurd (omega arith)

    outside : (i : ℕ) → (i < place) ⊎ (place + (count + 1) ≤ i) → row_of mid i ≡ row_of old i
    outside i (inl low) = so_far.outside i (inl low)
    outside i (inr high) = so_far.outside i (inr (omega arith))

-- the words after one of them was placed
word_placed : (a : ℕ) (part : ℕ → Part) (old new : List Part) (word : ℕ → Row) → IsWordAddress a → HoldsWords old word
    → IsPlaced (word_place a) 32 part old new → (b k : ℕ) → IsWordAddress b → k < 32
    → word_part new b k ≡ cond (nat_eq a b) (part k) (word b k)
word_placed a part old new word is_a holds placed b k is_b h = go (cases_eq a b)
  where
    go : (a ≡ b) ⊎ (a ≢ b) → word_part new b k ≡ cond (nat_eq a b) (part k) (word b k)
    go (inl e) =
        ap (λ c. word_part new c k) (sym e) ∙ placed.inside k h ∙ sym (ap (λ t. cond t (part k) (word b k)) (eq-eqb a b e))
    go (inr n) =
        placed.outside (word_place b + k) (words_apart a b k is_a is_b n h) ∙ holds.each b k is_b h
        ∙ sym (ap (λ t. cond t (part k) (word b k)) (ne_eqb a b n))

cond_start : (table : LabelTable) (t : Bool) (s u : Start)
    → cond t (start_state parts table 0 s) (start_state parts table 0 u) ≡ start_state parts table 0 (cond t s u)
cond_start table true s u = refl
cond_start table false s u = refl

-- the words that the memory starts with, with one plan more
pub starts_more : (table : LabelTable) (w : WordPlan) (ws : List WordPlan) (old new : List Part) → IsWordAddress w.address
    → HoldsWords old (start_word parts table ws)
    → IsPlaced (word_place w.address) 32 (λ k. start_state parts table 0 (get_or w.bits k (Public false))) old new
    → HoldsWords new (start_word parts table (w ∷ ws))
starts_more table w ws old new is holds placed = record {
  as_long = placed.as_long ∙ holds.as_long;
  each = λ b k is_b h. word_placed w.address (λ k. start_state parts table 0 (get_or w.bits k (Public false))) old new (start_word parts table ws) is holds placed b k is_b h
      ∙ cond_start table (nat_eq w.address b) (get_or w.bits k (Public false)) (word_start ws b k);
}

-- a port that writes inside the regions
cond_both : (a e : Bool) (x y z : Part) → (a ≡ true → z ≡ y) → cond a (cond e x z) y ≡ cond (a && e) x y
cond_both true true x y z same = refl
cond_both true false x y z same = same refl
cond_both false e x y z same = refl

pub stores_word : (r : Row) (mem : MemPlan) (old new : List Part) (word : ℕ → Row) (place : ℕ) → is_write (ones r) mem ≡ true
    → IsInRegion (number_on (ones r) mem.address) → place ≡ word_place (number_on (ones r) mem.address) → HoldsWords old word
    → IsPlaced place 32 (port_part r mem place old) old new
    → HoldsWords new (λ a k. stored_word parts (ones r) r (mem ∷ []) a k (word a k))
stores_word r mem old new word place writes region is holds placed = record {
  as_long = placed.as_long ∙ holds.as_long;
  each = λ b k is_b h. word_placed a0 (port_part r mem place old) old new word address holds at_word b k is_b h
      ∙ cond_both (nat_eq a0 b) (enable k) (value k) (word b k) (row_of old (place + k)) (λ same. kept b k is_b h (eqb-true a0 b same))
      ∙ ap (λ w. cond (w && (nat_eq a0 b && enable k)) (value k) (word b k)) (sym writes);
}
  where
    a0 : ℕ
    a0 = word_address (ones r) mem

    enable : ℕ → Bool
    enable k = wire_value (ones r) (get_or mem.enables (k / 8) (Const false))

    value : ℕ → Part
    value k = wire_part r (get_or mem.value k (Const false))

    address : IsWordAddress a0
    address = region_word (number_on (ones r) mem.address) region

    here : place ≡ word_place a0
    here = is ∙ sym (place_of_word (number_on (ones r) mem.address) region)

    at_word : IsPlaced (word_place a0) 32 (port_part r mem place old) old new
    at_word = subst (λ p. IsPlaced p 32 (port_part r mem place old) old new) here placed

    kept : (b k : ℕ) → IsWordAddress b → k < 32 → a0 ≡ b → row_of old (place + k) ≡ word b k
    kept b k is_b h same = ap (λ p. row_of old (p + k)) (here ∙ ap word_place same) ∙ holds.each b k is_b h

-- a port that does not write
pub stores_nothing : (r : Row) (mem : MemPlan) (old : List Part) (word : ℕ → Row) → is_write (ones r) mem ≡ false → HoldsWords old word
    → HoldsWords old (λ a k. stored_word parts (ones r) r (mem ∷ []) a k (word a k))
stores_nothing r mem old word idle holds = record {
  as_long = holds.as_long;
  each = λ b k is_b h. holds.each b k is_b h
      ∙ ap (λ w. cond (w && (nat_eq (word_address (ones r) mem) b && wire_value (ones r) (get_or mem.enables (k / 8) (Const false)))) (wire_part r (get_or mem.value k (Const false))) (word b k)) (sym idle);
}

-- a port that writes outside the regions
pub stores_outside : (r : Row) (mem : MemPlan) (old : List Part) (word : ℕ → Row) → is_write (ones r) mem ≡ true
    → (IsInRegion (number_on (ones r) mem.address) → ⊥) → HoldsWords old word
    → HoldsWords old (λ a k. stored_word parts (ones r) r (mem ∷ []) a k (word a k))
stores_outside r mem old word writes outside holds = record {
  as_long = holds.as_long;
  each = λ b k is_b h. holds.each b k is_b h
      ∙ ap (λ t. cond (t && wire_value (ones r) (get_or mem.enables (k / 8) (Const false))) (wire_part r (get_or mem.value k (Const false))) (word b k))
      (sym (ne_eqb (word_address (ones r) mem) b (λ same. outside (word_region (number_on (ones r) mem.address) (subst IsInRegion (sym same) is_b.inside)))))
      ∙ ap (λ w. cond (w && (nat_eq (word_address (ones r) mem) b && wire_value (ones r) (get_or mem.enables (k / 8) (Const false)))) (wire_part r (get_or mem.value k (Const false))) (word b k)) (sym writes);
}

drop_end : {X : Type 0} (xs : List X) → drop (length xs) xs ≡ []
drop_end [] = refl
drop_end (x ∷ xs) = drop_end xs

row_still : (n b : ℕ) → row_of (replicate n Zero) b ≡ Zero
row_still zero b = refl
row_still (suc n) zero = refl
row_still (suc n) (suc b) = row_still n b

-- the words of a memory without plans are 0
pub starts_none : (table : LabelTable) (ws : List WordPlan) (memory : List Part) → memory ≡ replicate word_bits Zero
    → HoldsWords memory (start_word parts table (drop (length ws) ws))
starts_none table ws memory is = subst (λ us. HoldsWords memory (start_word parts table us)) (sym (drop_end ws)) (record {
  as_long = ap length is ∙ length-replicate word_bits Zero;
  each = λ a k is_a h. ap (λ m. row_of m (word_place a + k)) is ∙ row_still word_bits (word_place a + k);
})
