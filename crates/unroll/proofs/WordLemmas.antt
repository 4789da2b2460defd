-- The nodes of the memory's words as one list of those of their bits.
use Rattle.std.proofs.Common.{◌≡◌, ◌≢◌, ℕ, zero, suc, ◌+◌, ◌/◌, ◌<◌, ◌≤◌, ◌⊎◌, inl, inr, Bool, true, false, cond, ◌&&◌, nat_eq, List, [], ◌∷◌, length, get_or, set, drop, refl, sym, ◌∙◌, ap, subst, arith}
use Rattle.std.proofs.lemmas.Bool.{cases_eq, cases_order, ne_eqb, eq-eqb, eqb-true}
use Rattle.std.proofs.lemmas.List.{get_or-set_same, get_or-set_other, length-replicate}
use Rattle.std.specs.Prelude.{replicate}
use Rattle.std.proofs.Math.ListN.{length-set}
use Rattle.coco_base.specs.declared.labels.LabelTable.{LabelTable}
use Rattle.coco_base.specs.declared.netlist.Wire.TheVariants.{Const}
use Rattle.coco_base.specs.declared.setup.MemPlan.{MemPlan}
use Rattle.coco_base.specs.declared.setup.Start.{Start}
use Rattle.coco_base.specs.declared.setup.Start.TheVariants.{Public}
use Rattle.coco_base.specs.declared.setup.WordPlan.{WordPlan}
use Rattle.coco_base.specs.declared.unrolled.Node.{Node}
use Rattle.coco_base.specs.declared.unrolled.Node.TheVariants.{Nothing}
use Rattle.coco_model.specs.Carried.{number_on, word_address, is_write, stored_word, start_state, start_word, word_start}
use Rattle.coco_model.specs.Controls.{IsInRegion}
use Rattle.coco_model.specs.Known.{Row, ones}
use Rattle.coco_model.specs.Netlist.{wire_value}
use Rattle.coco_model.specs.Nodes.{starting_nodes}
use Rattle.coco_model.specs.Setups.{IsWordAddress}
use Rattle.cycle_sim.specs.Memories.{word_bits, word_place}
use Rattle.cycle_sim.proofs.PlacedLemmas.{words_apart, region_word, word_region, place_of_word}
use Rattle.unroll.specs.NodeRows.{NodeRow, nodes_of, wire_node}
use Rattle.unroll.specs.NodeWords.{word_node, HoldsNodes, IsPlaced, port_node}

-- one more node is placed
pub placed_none : (place : ℕ) (node : ℕ → Node) (old : List Node) → IsPlaced place 0 node old old
placed_none place node old = record { as_long = refl; inside = λ k h. absurd (omega arith); outside = λ i h. refl }

pub placed_more : (place count : ℕ) (node : ℕ → Node) (old mid : List Node) (x : Node) → x ≡ node count → place + count < length old
    → IsPlaced place count node old mid → IsPlaced place (count + 1) node old (set mid (place + count) x)
placed_more place count node old mid x is below so_far = record {
  as_long = length-set mid (place + count) x ∙ so_far.as_long;
  inside = λ k h. go k h (cases_order k count);
  outside = λ i h. outside i h;
}
  where
    long : place + count < length mid
    long = let l = so_far.as_long in omega arith

    other : (i : ℕ) → i ≢ place + count → nodes_of (set mid (place + count) x) i ≡ nodes_of mid i
    other i n = get_or-set_other mid (place + count) i x Nothing n

    go : (k : ℕ) → k < count + 1 → (k ≡ count) ⊎ ((k < count) ⊎ (count < k)) → nodes_of (set mid (place + count) x) (place + k) ≡ node k
    go k h (inl e) =
        ap (λ j. nodes_of (set mid (place + count) x) (place + j)) e ∙ get_or-set_same mid (place + count) x Nothing long ∙ is ∙ ap node (sym e)
    go k h (inr (inl less)) = other (place + k) (λ e. let f : place + k ≡ place + count = e in omega arith) ∙ so_far.inside k less
    go k h (inr (inr more)) = absurd (omega arith)

    outside : (i : ℕ) → (i < place) ⊎ (place + (count + 1) ≤ i) → nodes_of (set mid (place + count) x) i ≡ nodes_of old i
    outside i (inl low) = other i (λ e. let f : i ≡ place + count = e in omega arith) ∙ so_far.outside i (inl low)
    outside i (inr high) = other i (λ e. let f : i ≡ place + count = e in omega arith) ∙ so_far.outside i (inr (omega arith))

-- a node stays where it is placed as it was
pub placed_same : (place count : ℕ) (node : ℕ → Node) (old mid : List Node) → nodes_of old (place + count) ≡ node count
    → IsPlaced place count node old mid → IsPlaced place (count + 1) node old mid
placed_same place count node old mid is so_far = record {
  as_long = so_far.as_long;
  inside = λ k h. go k h (cases_order k count);
  outside = λ i h. outside i h;
}
  where
    go : (k : ℕ) → k < count + 1 → (k ≡ count) ⊎ ((k < count) ⊎ (count < k)) → nodes_of mid (place + k) ≡ node k
    go k h (inl e) =
        ap (λ j. nodes_of mid (place + j)) e ∙ so_far.outside (place + count) (inr (omega arith)) ∙ is ∙ ap node (sym e)
    go k h (inr (inl less)) = so_far.inside k less
    go k h (inr (inr more)) = absurd (omega arith)

    outside : (i : ℕ) → (i < place) ⊎ (place + (count + 1) ≤ i) → nodes_of mid i ≡ nodes_of old i
    outside i (inl low) = so_far.outside i (inl low)
    outside i (inr high) = so_far.outside i (inr (omega arith))

-- the words after one of them was placed
word_placed : (a : ℕ) (node : ℕ → Node) (old new : List Node) (word : ℕ → ℕ → Node) → IsWordAddress a → HoldsNodes old word
    → IsPlaced (word_place a) 32 node old new → (b k : ℕ) → IsWordAddress b → k < 32
    → word_node new b k ≡ cond (nat_eq a b) (node k) (word b k)
word_placed a node old new word is_a holds placed b k is_b h = go (cases_eq a b)
  where
    go : (a ≡ b) ⊎ (a ≢ b) → word_node new b k ≡ cond (nat_eq a b) (node k) (word b k)
    go (inl e) =
        ap (λ c. word_node new c k) (sym e) ∙ placed.inside k h ∙ sym (ap (λ t. cond t (node k) (word b k)) (eq-eqb a b e))
    go (inr n) =
        placed.outside (word_place b + k) (words_apart a b k is_a is_b n h) ∙ holds.each b k is_b h
        ∙ sym (ap (λ t. cond t (node k) (word b k)) (ne_eqb a b n))

cond_start : (table : LabelTable) (t : Bool) (s u : Start)
    → cond t (start_state starting_nodes table 0 s) (start_state starting_nodes table 0 u) ≡ start_state starting_nodes table 0 (cond t s u)
cond_start table true s u = refl
cond_start table false s u = refl

-- the words that the memory starts with, with one plan more
pub starts_more : (table : LabelTable) (w : WordPlan) (ws : List WordPlan) (old new : List Node) → IsWordAddress w.address
    → HoldsNodes old (start_word starting_nodes table ws)
    → IsPlaced (word_place w.address) 32 (λ k. start_state starting_nodes table 0 (get_or w.bits k (Public false))) old new
    → HoldsNodes new (start_word starting_nodes table (w ∷ ws))
starts_more table w ws old new is holds placed = record {
  as_long = placed.as_long ∙ holds.as_long;
  each = λ b k is_b h. word_placed w.address (λ k. start_state starting_nodes table 0 (get_or w.bits k (Public false))) old new (start_word starting_nodes table ws) is holds placed b k is_b h
      ∙ cond_start table (nat_eq w.address b) (get_or w.bits k (Public false)) (word_start ws b k);
}

-- a port that writes inside the regions
cond_both : (a e : Bool) (x y z : Node) → (a ≡ true → z ≡ y) → cond a (cond e x z) y ≡ cond (a && e) x y
cond_both true true x y z same = refl
cond_both true false x y z same = same refl
cond_both false e x y z same = refl

pub stores_word : (r : Row) (copied : NodeRow) (mem : MemPlan) (old new : List Node) (word : ℕ → ℕ → Node) (place : ℕ) → is_write (ones r) mem ≡ true
    → IsInRegion (number_on (ones r) mem.address) → place ≡ word_place (number_on (ones r) mem.address) → HoldsNodes old word
    → IsPlaced place 32 (port_node r copied mem place old) old new
    → HoldsNodes new (λ a k. stored_word starting_nodes (ones r) copied (mem ∷ []) a k (word a k))
stores_word r copied mem old new word place writes region is holds placed = record {
  as_long = placed.as_long ∙ holds.as_long;
  each = λ b k is_b h. word_placed a0 (port_node r copied mem place old) old new word address holds at_word b k is_b h
      ∙ cond_both (nat_eq a0 b) (enable k) (value k) (word b k) (nodes_of old (place + k)) (λ same. kept b k is_b h (eqb-true a0 b same))
      ∙ ap (λ w. cond (w && (nat_eq a0 b && enable k)) (value k) (word b k)) (sym writes);
}
  where
    a0 : ℕ
    a0 = word_address (ones r) mem

    enable : ℕ → Bool
    enable k = wire_value (ones r) (get_or mem.enables (k / 8) (Const false))

    value : ℕ → Node
    value k = wire_node copied (get_or mem.value k (Const false))

    address : IsWordAddress a0
    address = region_word (number_on (ones r) mem.address) region

    here : place ≡ word_place a0
    here = is ∙ sym (place_of_word (number_on (ones r) mem.address) region)

    at_word : IsPlaced (word_place a0) 32 (port_node r copied mem place old) old new
    at_word = subst (λ p. IsPlaced p 32 (port_node r copied mem place old) old new) here placed

    kept : (b k : ℕ) → IsWordAddress b → k < 32 → a0 ≡ b → nodes_of old (place + k) ≡ word b k
    kept b k is_b h same = ap (λ p. nodes_of old (p + k)) (here ∙ ap word_place same) ∙ holds.each b k is_b h

-- a port that does not write
pub stores_nothing : (r : Row) (copied : NodeRow) (mem : MemPlan) (old : List Node) (word : ℕ → ℕ → Node) → is_write (ones r) mem ≡ false → HoldsNodes old word
    → HoldsNodes old (λ a k. stored_word starting_nodes (ones r) copied (mem ∷ []) a k (word a k))
stores_nothing r copied mem old word idle holds = record {
  as_long = holds.as_long;
  each = λ b k is_b h. holds.each b k is_b h
      ∙ ap (λ w. cond (w && (nat_eq (word_address (ones r) mem) b && wire_value (ones r) (get_or mem.enables (k / 8) (Const false)))) (wire_node copied (get_or mem.value k (Const false))) (word b k)) (sym idle);
}

-- a port that writes outside the regions
pub stores_outside : (r : Row) (copied : NodeRow) (mem : MemPlan) (old : List Node) (word : ℕ → ℕ → Node) → is_write (ones r) mem ≡ true
    → (IsInRegion (number_on (ones r) mem.address) → ⊥) → HoldsNodes old word
    → HoldsNodes old (λ a k. stored_word starting_nodes (ones r) copied (mem ∷ []) a k (word a k))
stores_outside r copied mem old word writes outside holds = record {
  as_long = holds.as_long;
  each = λ b k is_b h. holds.each b k is_b h
      ∙ ap (λ t. cond (t && wire_value (ones r) (get_or mem.enables (k / 8) (Const false))) (wire_node copied (get_or mem.value k (Const false))) (word b k))
      (sym (ne_eqb (word_address (ones r) mem) b (λ same. outside (word_region (number_on (ones r) mem.address) (subst IsInRegion (sym same) is_b.inside)))))
      ∙ ap (λ w. cond (w && (nat_eq (word_address (ones r) mem) b && wire_value (ones r) (get_or mem.enables (k / 8) (Const false)))) (wire_node copied (get_or mem.value k (Const false))) (word b k)) (sym writes);
}

drop_end : {X : Type 0} (xs : List X) → drop (length xs) xs ≡ []
drop_end [] = refl
drop_end (x ∷ xs) = drop_end xs

row_still : (n b : ℕ) → nodes_of (replicate n Nothing) b ≡ Nothing
row_still zero b = refl
row_still (suc n) zero = refl
row_still (suc n) (suc b) = row_still n b

-- the words of a memory without plans are 0
pub starts_none : (table : LabelTable) (ws : List WordPlan) (memory : List Node) → memory ≡ replicate word_bits Nothing
    → HoldsNodes memory (start_word starting_nodes table (drop (length ws) ws))
starts_none table ws memory is = subst (λ us. HoldsNodes memory (start_word starting_nodes table us)) (sym (drop_end ws)) (record {
  as_long = ap length is ∙ length-replicate word_bits Nothing;
  each = λ a k is_a h. ap (λ m. nodes_of m (word_place a + k)) is ∙ row_still word_bits (word_place a + k);
})
