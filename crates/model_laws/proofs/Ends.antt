-- The events of all leaves and then of all cells in order end settled.
use Rattle.std.proofs.Common.{◌≡◌, ℕ, ◌⊎◌, inl, inr, Bool, true, false, cond, nat_eq, List, [], ◌∷◌, ◌++◌, map, refl, sym, ◌∙◌, ap, subst}
use Rattle.std.specs.Prelude.{Contains}
use Rattle.std.proofs.lemmas.Bool.{cases_Bool, eqb-true, eq-eqb}
use Rattle.coco_base.specs.declared.netlist.Flat.{Flat}
use Rattle.coco_base.specs.declared.netlist.Wire.TheVariants.{Bit}
use Rattle.coco_model.specs.Cells.{output_of}
use Rattle.coco_model.specs.Netlist.{Valuation, wires_of, cell_value, IsSettled, IsCellBit}
use Rattle.coco_model.specs.Events.{Event, put, put_cell, after_event, after_events, IsCellOrder}
use Rattle.coco_model.specs.Events.Event.{leaf, cell}
use Rattle.coco_model.proofs.Basics.{Contains-cases, Contains-none}
use Rattle.model_laws.proofs.Lists.{member_of_place}
use Rattle.model_laws.proofs.Ranks.{cell_bit_or_not}
use Rattle.model_laws.proofs.Forced.{on_wires-cong}
use Rattle.model_laws.specs.Laws.{EndLaw}

after_events-append : (flat : Flat) (new now : Valuation) (es fs : List Event)
    → after_events flat new now (es ++ fs) ≡ after_events flat new (after_events flat new now es) fs
after_events-append flat new now [] fs = refl
after_events-append flat new now (e ∷ es) fs = after_events-append flat new (after_event flat new now e) es fs

-- a put of the right value keeps right what is, and makes its bit right
put-right : (new now : Valuation) (bit : ℕ) (x : Bool) → x ≡ new bit → (b : ℕ) → (b ≡ bit) ⊎ (now b ≡ new b) → put now bit x b ≡ new b
put-right new now bit x right b h = go (cases_Bool (nat_eq b bit)) h
  where
    go : (nat_eq b bit ≡ true) ⊎ (nat_eq b bit ≡ false) → (b ≡ bit) ⊎ (now b ≡ new b) → put now bit x b ≡ new b
    go (inl e) h = ap (λ t. cond t x (now b)) e ∙ right ∙ ap new (sym (eqb-true b bit e))
    go (inr e) (inl same) = absurd (let f = eq-eqb b bit same in let g : true ≡ false = sym f ∙ e in cc)
    go (inr e) (inr is) = ap (λ t. cond t x (now b)) e ∙ is

after_leaves : (flat : Flat) (new now : Valuation) (leaves : List ℕ) (b : ℕ) → Contains leaves b ⊎ (now b ≡ new b)
    → after_events flat new now (map leaf leaves) b ≡ new b
after_leaves flat new now [] b (inl h) = absurd (Contains-none b h)
after_leaves flat new now [] b (inr e) = e
after_leaves flat new now (a ∷ leaves) b h = after_leaves flat new (put now a (new a)) leaves b (next h)
  where
    listed : (a ≡ b) ⊎ Contains leaves b → Contains leaves b ⊎ (put now a (new a) b ≡ new b)
    listed (inl e) = inr (put-right new now a (new a) refl b (inl (sym e)))
    listed (inr i) = inl i

    next : Contains (a ∷ leaves) b ⊎ (now b ≡ new b) → Contains leaves b ⊎ (put now a (new a) b ≡ new b)
    next (inl i) = listed (Contains-cases a b leaves i)
    next (inr e) = inr (put-right new now a (new a) refl b (inr e))

after_cells : (flat : Flat) (new now : Valuation) → IsSettled flat new → (done order : List ℕ) → IsCellOrder flat done order
    → ((b : ℕ) → (IsCellBit flat b → ⊥) → now b ≡ new b) → ((b : ℕ) → Contains done b → now b ≡ new b) → (b : ℕ)
    → after_events flat new now (map cell order) b ≡ new b
after_cells flat new now settled done [] all leaves right b = go (cell_bit_or_not flat b)
  where
    go : IsCellBit flat b ⊎ (IsCellBit flat b → ⊥) → now b ≡ new b
    go (inl h) = right b (all b h)
    go (inr none) = leaves b none
after_cells flat new now settled done (i ∷ order) (c, at, reads, rest) leaves right b =
    subst (λ v. after_events flat new v (map cell order) b ≡ new b) (sym event)
    (after_cells flat new (put now c.output (cell_value now c)) settled (c.output ∷ done) order rest
    (λ a none. put-right new now c.output (cell_value now c) value a (inr (leaves a none)))
    (λ a h. put-right new now c.output (cell_value now c) value a (known a (Contains-cases c.output a done h))) b)
  where
    event : after_event flat new now (cell i) ≡ put now c.output (cell_value now c)
    event = ap (put_cell now) at

    listed : Contains flat.cells c
    listed = member_of_place flat.cells i c at

    input : (a : ℕ) → Contains (wires_of c) (Bit a) → now a ≡ new a
    input a read = go (cell_bit_or_not flat a)
      where
        go : IsCellBit flat a ⊎ (IsCellBit flat a → ⊥) → now a ≡ new a
        go (inl h) = right a (reads a read h)
        go (inr none) = leaves a none

    value : cell_value now c ≡ new c.output
    value = ap (output_of c.kind) (on_wires-cong (λ b. b) now new (wires_of c) input) ∙ sym (settled.cells c listed)

    known : (a : ℕ) → (c.output ≡ a) ⊎ Contains done a → (a ≡ c.output) ⊎ (now a ≡ new a)
    known a (inl e) = inl (sym e)
    known a (inr h) = inr (right a h)

pub end_law : EndLaw
unfolding EndLaw
end_law flat old new settled leaves order given ordered b =
    subst (λ v. v b ≡ new b) (sym (after_events-append flat new old (map leaf leaves) (map cell order)))
    (after_cells flat new (after_events flat new old (map leaf leaves)) settled [] order ordered
    (λ a none. after_leaves flat new old leaves a (given a none)) (λ a h. absurd (Contains-none a h)) b)
