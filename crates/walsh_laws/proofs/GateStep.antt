-- One gate taken out of a sum of signs, one input at a time.
use Rattle.std.proofs.Common.{◌≡◌, ◌≢◌, ℕ, zero, suc, ◌⊎◌, inl, inr, Bool, true, false, ◌&&◌, List, [], ◌∷◌, length, get_or, map, refl, sym, ◌∙◌, ap, arith, ℤ, pos, neg_ℤ, ◌+ℤ◌}
use Rattle.std.proofs.Math.IntN.{ℤ_discrete}
use Rattle.std.proofs.lemmas.Int.{ints}
use Rattle.std.proofs.lemmas.Bool.{false≢true}
use Rattle.coco_base.specs.declared.cell.Part.{Part}
use Rattle.coco_base.specs.declared.cell.Part.TheVariants.{Zero, One, Vary}
use Rattle.coco_model.specs.Cells.{xor, signed, chosen_parity, IsSubsetOf, Subset}
use Rattle.coco_model.specs.Labels.{Choice}
use Rattle.walsh_laws.specs.NodeValues.{input_values}
use Rattle.coco_model.proofs.Bits.{xor-false, signed-add, signed-neg, signed-zero}
use Rattle.cell_table.specs.Sums.{sum_of}
use Rattle.cell_table.proofs.Sums.{sum-zero, sum-one, sum-vary}
use Rattle.cell_table.proofs.LawLemmas.{subset_behind}
use Rattle.walsh_laws.proofs.Totals.{total, total-cong, total-add, total_factor, total_none}

-- the signed sum of any function into the whole numbers, place by place
abbrev pub signed_total : (List Bool → ℤ) → Subset → List Part → ℤ
signed_total f ss [] = f []
signed_total f [] (p ∷ ps) = pos 0
signed_total f (s ∷ ss) (Zero ∷ ps) = signed_total (λ xs. f (false ∷ xs)) ss ps
signed_total f (s ∷ ss) (One ∷ ps) = signed_total (λ xs. f (true ∷ xs)) ss ps
signed_total f (s ∷ ss) (Vary ∷ ps) = signed_total (λ xs. f (false ∷ xs)) ss ps +ℤ signed s (signed_total (λ xs. f (true ∷ xs)) ss ps)

signed_total-add : (f g : List Bool → ℤ) (ss : Subset) (ps : List Part)
    → signed_total (λ xs. f xs +ℤ g xs) ss ps ≡ signed_total f ss ps +ℤ signed_total g ss ps
signed_total-add f g ss [] = refl
signed_total-add f g [] (p ∷ ps) = refl
signed_total-add f g (s ∷ ss) (Zero ∷ ps) = signed_total-add (λ xs. f (false ∷ xs)) (λ xs. g (false ∷ xs)) ss ps
signed_total-add f g (s ∷ ss) (One ∷ ps) = signed_total-add (λ xs. f (true ∷ xs)) (λ xs. g (true ∷ xs)) ss ps
signed_total-add f g (s ∷ ss) (Vary ∷ ps) =
    rw (
      signed_total-add (λ xs. f (false ∷ xs)) (λ xs. g (false ∷ xs)) ss ps,
      signed_total-add (λ xs. f (true ∷ xs)) (λ xs. g (true ∷ xs)) ss ps,
      signed-add s (signed_total (λ xs. f (true ∷ xs)) ss ps) (signed_total (λ xs. g (true ∷ xs)) ss ps),
    ) (omega (arith, ints))

signed_total-neg : (f : List Bool → ℤ) (ss : Subset) (ps : List Part)
    → signed_total (λ xs. neg_ℤ (f xs)) ss ps ≡ neg_ℤ (signed_total f ss ps)
signed_total-neg f ss [] = refl
signed_total-neg f [] (p ∷ ps) = omega (arith, ints)
signed_total-neg f (s ∷ ss) (Zero ∷ ps) = signed_total-neg (λ xs. f (false ∷ xs)) ss ps
signed_total-neg f (s ∷ ss) (One ∷ ps) = signed_total-neg (λ xs. f (true ∷ xs)) ss ps
signed_total-neg f (s ∷ ss) (Vary ∷ ps) =
    rw (
      signed_total-neg (λ xs. f (false ∷ xs)) ss ps,
      signed_total-neg (λ xs. f (true ∷ xs)) ss ps,
      signed-neg s (signed_total (λ xs. f (true ∷ xs)) ss ps),
    ) (omega (arith, ints))

not_chosen : (s : Bool) (ss : Subset) (p : Part) (ps : List Part) → IsSubsetOf (s ∷ ss) (p ∷ ps) → p ≢ Vary → s ≡ false
not_chosen true ss p ps h n = absurd (n (h.varies 0 refl))
not_chosen false ss p ps h n = refl

-- of signs it is the signed sum
pub signed_total-signs : (f : List Bool → Bool) (ss : Subset) (ps : List Part) → IsSubsetOf ss ps
    → signed_total (λ xs. signed (f xs) (pos 1)) ss ps ≡ sum_of f ss ps
signed_total-signs f [] [] h = rw (xor-false (f [])) (omega (arith, ints))
signed_total-signs f (s ∷ ss) [] h = rw (xor-false (f [])) (omega (arith, ints))
signed_total-signs f [] (p ∷ ps) h = let n = h.as_long in absurd (omega arith)
signed_total-signs f (s ∷ ss) (Zero ∷ ps) h =
    signed_total-signs (λ xs. f (false ∷ xs)) ss ps (subset_behind s ss Zero ps h) ∙ sym (sum-zero f s ss ps)
signed_total-signs f (s ∷ ss) (One ∷ ps) h =
    signed_total-signs (λ xs. f (true ∷ xs)) ss ps (subset_behind s ss One ps h)
    ∙ sym (sum-one f s ss ps ∙ rw (not_chosen s ss One ps h (λ e. cc)) refl)
signed_total-signs f (s ∷ ss) (Vary ∷ ps) h =
    ap (λ y. y +ℤ signed s (signed_total (λ xs. signed (f (true ∷ xs)) (pos 1)) ss ps))
    (signed_total-signs (λ xs. f (false ∷ xs)) ss ps (subset_behind s ss Vary ps h))
    ∙ ap (λ y. sum_of (λ xs. f (false ∷ xs)) ss ps +ℤ signed s y)
    (signed_total-signs (λ xs. f (true ∷ xs)) ss ps (subset_behind s ss Vary ps h))
    ∙ sym (sum-vary f s ss ps)

-- a subset of the unknown inputs at which the signed sum is not 0, and where the operands' values stand for the function's
pub record IsGateStep (f : List Bool → ℤ) (n : ℕ) (value : Choice → ℕ → Bool) (rest : Choice → Bool) (ps : List Part)
    (os : List ℕ) : Type 0 where
  pub subset : Subset
  pub unknown : IsSubsetOf subset ps
  pub signed_sum : signed_total f subset ps ≢ pos 0
  pub remains : total n (λ c. signed (xor (chosen_parity subset (map (value c) os)) (rest c)) (pos 1)) ≢ pos 0

-- one of two numbers is not 0, as their sum is not
one_of_two : (a b : ℤ) → a +ℤ b ≢ pos 0 → (a ≢ pos 0) ⊎ (b ≢ pos 0)
one_of_two a b n = go (ℤ_discrete a (pos 0))
  where
    go : Dec (a ≡ pos 0) → (a ≢ pos 0) ⊎ (b ≢ pos 0)
    go (no k) = inl k
    go (yes e) = inr (λ z. n (rw (e, z) (omega (arith, ints))))

twice_not_zero : (a : ℤ) → a ≢ pos 0 → a +ℤ a ≢ pos 0
twice_not_zero a n e = n (omega (arith, ints))

-- a function of one bit more, by its even part and its odd part
two_parts : (g x : Bool) (f0 f1 f : ℤ) → (x ≡ false → f ≡ f0) → (x ≡ true → f ≡ f1)
    → signed g f +ℤ signed g f ≡ signed g (f0 +ℤ f1) +ℤ signed (xor x g) (f0 +ℤ neg_ℤ f1)
two_parts true true f0 f1 f a b = rw (b refl) (omega (arith, ints))
two_parts true false f0 f1 f a b = rw (a refl) (omega (arith, ints))
two_parts false true f0 f1 f a b = rw (b refl) (omega (arith, ints))
two_parts false false f0 f1 f a b = rw (a refl) (omega (arith, ints))

known_step : (f : List Bool → ℤ) (n : ℕ) (value : Choice → ℕ → Bool) (rest : Choice → Bool) (p : Part) (ps : List Part) (o : ℕ)
    (os : List ℕ) (b : Bool)
    → p ≢ Vary → ((ss : Subset) → signed_total f (false ∷ ss) (p ∷ ps) ≡ signed_total (λ xs. f (b ∷ xs)) ss ps)
    → IsGateStep (λ xs. f (b ∷ xs)) n value rest ps os → IsGateStep f n value rest (p ∷ ps) (o ∷ os)
known_step f n value rest p ps o os b known sum s = record {
  subset = false ∷ s.subset;
  unknown = record { as_long = ap suc s.unknown.as_long; varies = varies };
  signed_sum = λ e. s.signed_sum (sym (sum s.subset) ∙ e);
  remains = s.remains;
}
  where
    varies : (place : ℕ) → get_or (false ∷ s.subset) place false ≡ true → get_or (p ∷ ps) place Zero ≡ Vary
    varies zero e = absurd (false≢true e)
    varies (suc place) e = s.unknown.varies place e

vary_step : (f : List Bool → ℤ) (n : ℕ) (value : Choice → ℕ → Bool) (rest : Choice → Bool) (ps : List Part) (o : ℕ) (os : List ℕ) (b : Bool)
    → (new_rest : Choice → Bool) → ((c : Choice) → new_rest c ≡ xor (b && value c o) (rest c))
    → IsGateStep (λ xs. f (false ∷ xs) +ℤ signed b (f (true ∷ xs))) n value new_rest ps os → IsGateStep f n value rest (Vary ∷ ps) (o ∷ os)
vary_step f n value rest ps o os b new_rest is s = record {
  subset = b ∷ s.subset;
  unknown = record { as_long = ap suc s.unknown.as_long; varies = varies };
  signed_sum = λ e. s.signed_sum (split b ∙ e);
  remains = λ e. s.remains (total-cong n _ _ (λ c h. ap (λ y. signed y (pos 1)) (moved c)) ∙ e);
}
  where
    varies : (place : ℕ) → get_or (b ∷ s.subset) place false ≡ true → get_or (Vary ∷ ps) place Zero ≡ Vary
    varies zero e = refl
    varies (suc place) e = s.unknown.varies place e

    split : (b : Bool) → signed_total (λ xs. f (false ∷ xs) +ℤ signed b (f (true ∷ xs))) s.subset ps
        ≡ signed_total (λ xs. f (false ∷ xs)) s.subset ps +ℤ signed b (signed_total (λ xs. f (true ∷ xs)) s.subset ps)
    split true = signed_total-add (λ xs. f (false ∷ xs)) (λ xs. neg_ℤ (f (true ∷ xs))) s.subset ps
        ∙ ap (λ y. signed_total (λ xs. f (false ∷ xs)) s.subset ps +ℤ y) (signed_total-neg (λ xs. f (true ∷ xs)) s.subset ps)
    split false = signed_total-add (λ xs. f (false ∷ xs)) (λ xs. f (true ∷ xs)) s.subset ps

    moved : (c : Choice) → xor (chosen_parity s.subset (map (value c) os)) (new_rest c)
        ≡ xor (xor (b && value c o) (chosen_parity s.subset (map (value c) os))) (rest c)
    moved c = rw (is c) (grouped (b && value c o) (chosen_parity s.subset (map (value c) os)) (rest c))
      where
        grouped : (x y z : Bool) → xor y (xor x z) ≡ xor (xor x y) z
        grouped true true true = refl
        grouped true true false = refl
        grouped true false z = refl
        grouped false y z = refl

pub gate_step : (f : List Bool → ℤ) (n : ℕ) (value : Choice → ℕ → Bool) (rest : Choice → Bool) (ps : List Part) (os : List ℕ)
    → length os ≡ length ps
    → total n (λ c. signed (rest c) (f (input_values (value c) ps os))) ≢ pos 0 → IsGateStep f n value rest ps os
gate_step f n value rest [] os h k = record {
  subset = [];
  unknown = record { as_long = refl; varies = λ place e. absurd (false≢true e) };
  signed_sum = λ e. k (total_none n _ (λ c i. rw e (signed-zero (rest c))));
  remains = λ e. k (total_factor n rest e (f []));
}
gate_step f n value rest (p ∷ ps) [] h k = absurd (omega arith)
gate_step f n value rest (Zero ∷ ps) (o ∷ os) h k =
    known_step f n value rest Zero ps o os false (λ e. cc) (λ ss. refl)
    (gate_step (λ xs. f (false ∷ xs)) n value rest ps os (omega arith) k)
gate_step f n value rest (One ∷ ps) (o ∷ os) h k =
    known_step f n value rest One ps o os true (λ e. cc) (λ ss. refl) (gate_step (λ xs. f (true ∷ xs)) n value rest ps os (omega arith) k)
gate_step f n value rest (Vary ∷ ps) (o ∷ os) h k =
    go (one_of_two _ _ (λ e. twice_not_zero _ k (halves ∙ e)))
    (gate_step even n value rest ps os (omega arith)) (gate_step odd n value (λ c. xor (value c o) (rest c)) ps os (omega arith))
  where
    even : List Bool → ℤ
    even xs = f (false ∷ xs) +ℤ f (true ∷ xs)

    odd : List Bool → ℤ
    odd xs = f (false ∷ xs) +ℤ neg_ℤ (f (true ∷ xs))

    x : Choice → List Bool
    x c = input_values (value c) ps os

    halves : total n (λ c. signed (rest c) (f (value c o ∷ input_values (value c) ps os))) +ℤ total n
        (λ c. signed (rest c) (f (value c o ∷ input_values (value c) ps os)))
        ≡ total n (λ c. signed (rest c) (even (input_values (value c) ps os))) +ℤ total n
        (λ c. signed (xor (value c o) (rest c)) (odd (input_values (value c) ps os)))
    halves = sym (total-add n (λ c. signed (rest c) (f (value c o ∷ x c))) (λ c. signed (rest c) (f (value c o ∷ x c))))
        ∙ total-cong n _ _ (λ c i. two_parts (rest c) (value c o) (f (false ∷ x c)) (f (true ∷ x c)) (f (value c o ∷ x c)) (λ e. rw e refl)
        (λ e. rw e refl))
        ∙ total-add n (λ c. signed (rest c) (even (x c))) (λ c. signed (xor (value c o) (rest c)) (odd (x c)))

    go : (total n (λ c. signed (rest c) (even (input_values (value c) ps os))) ≢ pos 0)
        ⊎ (total n (λ c. signed (xor (value c o) (rest c)) (odd (input_values (value c) ps os))) ≢ pos 0)
        → (total n (λ c. signed (rest c) (even (input_values (value c) ps os))) ≢ pos 0 → IsGateStep even n value rest ps os)
        → (total n (λ c. signed (xor (value c o) (rest c)) (odd (input_values (value c) ps os))) ≢ pos 0
        → IsGateStep odd n value (λ c. xor (value c o) (rest c)) ps os)
        → IsGateStep f n value rest (Vary ∷ ps) (o ∷ os)
    go (inl e) one other = vary_step f n value rest ps o os false rest (λ c. refl) (one e)
    go (inr e) one other = vary_step f n value rest ps o os true (λ c. xor (value c o) (rest c)) (λ c. refl) (other e)
