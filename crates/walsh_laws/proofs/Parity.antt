-- Exclusive ors over sets of numbers, and over the labels of a choice.
use Rattle.std.proofs.Common.{◌≡◌, ◌≢◌, ℕ, zero, suc, ◌<◌, ◌⊎◌, inl, inr, Bool, true, false, ◌&&◌, List, [], ◌∷◌, length, get_or, map, refl, sym, ◌∙◌, ap, arith, nat_eq, ℤ, pos, ◌+ℤ◌, neg_ℤ}
use Rattle.std.proofs.lemmas.Int.{ints}
use Rattle.std.proofs.lemmas.Bool.{true≢false, cases_eq, eq-eqb, cases_Bool, ne_eqb}
use Rattle.std.proofs.Math.Dec.{eqb-suc-zero, eqb-suc-suc}
use Rattle.coco_model.specs.Cells.{xor, signed, chosen_parity}
use Rattle.coco_model.specs.Labels.{Choice, label_bit}
use Rattle.walsh_laws.specs.Sums.{parity_below}
use Rattle.coco_model.proofs.Bits.{xor-false, xor-four, xor-swap, and-xor, and-xor_right, and-false, signed-xor}
use Rattle.walsh_laws.proofs.Totals.{total, total-cong, total-neg}

pub parity-cong : (n : ℕ) (U V : ℕ → Bool) (v w : ℕ → Bool) → ((i : ℕ) → i < n → U i ≡ V i) → ((i : ℕ) → i < n → v i ≡ w i)
    → parity_below n U v ≡ parity_below n V w
parity-cong zero U V v w e f = refl
parity-cong (suc n) U V v w e f =
    let a : U n ≡ V n = e n (omega arith) in
    let b : v n ≡ w n = f n (omega arith) in
    let c : parity_below n U v ≡ parity_below n V w = parity-cong n U V v w (λ i h. e i (omega arith)) (λ i h. f i (omega arith)) in
    rw (a, b, c) refl

pub parity-xor : (n : ℕ) (U V : ℕ → Bool) (v : ℕ → Bool)
    → parity_below n (λ i. xor (U i) (V i)) v ≡ xor (parity_below n U v) (parity_below n V v)
parity-xor zero U V v = refl
parity-xor (suc n) U V v = rw (parity-xor n U V v, and-xor (U n) (V n) (v n))
    (xor-four (U n && v n) (V n && v n) (parity_below n U v) (parity_below n V v))

pub parity-xor_values : (n : ℕ) (U : ℕ → Bool) (v w : ℕ → Bool)
    → parity_below n U (λ i. xor (v i) (w i)) ≡ xor (parity_below n U v) (parity_below n U w)
parity-xor_values zero U v w = refl
parity-xor_values (suc n) U v w = rw (parity-xor_values n U v w, and-xor_right (U n) (v n) (w n))
    (xor-four (U n && v n) (U n && w n) (parity_below n U v) (parity_below n U w))

pub parity_none : (n : ℕ) (U v : ℕ → Bool) → ((i : ℕ) → i < n → U i ≡ false) → parity_below n U v ≡ false
parity_none zero U v e = refl
parity_none (suc n) U v e = rw (e n (omega arith), parity_none n U v (λ i h. e i (omega arith))) refl

-- one number alone
pub parity_one : (n j : ℕ) (v : ℕ → Bool) → j < n → parity_below n (λ i. nat_eq j i) v ≡ v j
parity_one zero j v h = absurd (omega arith)
parity_one (suc n) j v h = go (cases_eq j n) (parity_one n j v)
  where
    go : (j ≡ n) ⊎ (j ≢ n) → (j < n → parity_below n (λ i. nat_eq j i) v ≡ v j)
        → xor (nat_eq j n && v n) (parity_below n (λ i. nat_eq j i) v) ≡ v j
    go (inl e) rest = rw (e, eq-eqb n n refl, parity_none n (λ i. nat_eq n i) v (λ i k. ne_eqb n i (omega arith))) (xor-false (v n))
    go (inr k) rest = rw (ne_eqb j n k) (rest (omega arith))

-- the numbers at the places of a subset, each as often as it stands there
abbrev pub picked : List Bool → List ℕ → ℕ → Bool
picked subset numbers i = chosen_parity subset (map (λ o. nat_eq o i) numbers)

pub parity_picked : (n : ℕ) (subset : List Bool) (numbers : List ℕ) (v : ℕ → Bool)
    → ((place : ℕ) → place < length numbers → get_or subset place false ≡ true → get_or numbers place 0 < n)
    → parity_below n (picked subset numbers) v ≡ chosen_parity subset (map v numbers)
parity_picked n [] numbers v below = parity_none n (picked [] numbers) v (λ i h. refl)
parity_picked n (s ∷ ss) [] v below = parity_none n (picked (s ∷ ss) []) v (λ i h. refl)
parity_picked n (true ∷ ss) (o ∷ os) v below =
    parity-xor n (λ i. nat_eq o i) (picked ss os) v
    ∙ rw (parity_one n o v (below 0 (omega arith) refl), parity_picked n ss os v (λ place h e. below (suc place) (omega arith) e)) refl
parity_picked n (false ∷ ss) (o ∷ os) v below = parity_picked n ss os v (λ place h e. below (suc place) (omega arith) e)

-- the exclusive or of a choice's bits at the labels of a set
abbrev pub later : (ℕ → Bool) → ℕ → Bool
later W l = W (suc l)

abbrev pub label_parity : (ℕ → Bool) → Choice → Bool
label_parity W [] = false
label_parity W (a ∷ c) = xor (W 0 && a) (label_parity (later W) c)

pub label_parity-xor : (W X : ℕ → Bool) (c : Choice) → label_parity (λ l. xor (W l) (X l)) c ≡ xor (label_parity W c) (label_parity X c)
label_parity-xor W X [] = refl
label_parity-xor W X (a ∷ c) =
    rw (label_parity-xor (later W) (later X) c, and-xor (W 0) (X 0) a)
    (xor-four (W 0 && a) (X 0 && a) (label_parity (later W) c) (label_parity (later X) c))

pub label_parity-cong : (W X : ℕ → Bool) → ((l : ℕ) → W l ≡ X l) → (c : Choice) → label_parity W c ≡ label_parity X c
label_parity-cong W X e [] = refl
label_parity-cong W X e (a ∷ c) = rw (e 0, label_parity-cong (later W) (later X) (λ l. e (suc l)) c) refl

pub label_parity_none : (W : ℕ → Bool) → ((l : ℕ) → W l ≡ false) → (c : Choice) → label_parity W c ≡ false
label_parity_none W e [] = refl
label_parity_none W e (a ∷ c) = rw (e 0, label_parity_none (later W) (λ l. e (suc l)) c) refl

pub label_parity_one : (k : ℕ) (c : Choice) → label_parity (nat_eq k) c ≡ label_bit c k
label_parity_one k [] = refl
label_parity_one zero (a ∷ c) = rw (label_parity_none (λ l. nat_eq 0 (suc l)) (λ l. ne_eqb 0 (suc l) (λ e. omega arith)) c) (xor-false a)
label_parity_one (suc k) (a ∷ c) = rw (eqb-suc-zero k) (label_parity-cong (λ l. nat_eq (suc k) (suc l)) (nat_eq k) (eqb-suc-suc k) c
    ∙ label_parity_one k c)

parity_below-first : (n : ℕ) (U v : ℕ → Bool) → parity_below (suc n) U v ≡ xor (U 0 && v 0) (parity_below n (later U) (later v))
parity_below-first zero U v = refl
parity_below-first (suc n) U v =
    ap (xor (U (suc n) && v (suc n))) (parity_below-first n U v)
    ∙ xor-swap (U (suc n) && v (suc n)) (U 0 && v 0) (parity_below n (later U) (later v))

-- it is the exclusive or below the number of labels
pub label_parity-below : (n : ℕ) (W : ℕ → Bool) (c : Choice) → length c ≡ n → label_parity W c ≡ parity_below n W (label_bit c)
label_parity-below zero W [] h = refl
label_parity-below (suc n) W [] h = absurd (omega arith)
label_parity-below zero W (a ∷ c) h = absurd (omega arith)
label_parity-below (suc n) W (a ∷ c) h =
    ap (xor (W 0 && a)) (label_parity-below n (later W) c (omega arith)) ∙ sym (parity_below-first n W (label_bit (a ∷ c)))

-- a set with a label that is free has as many even choices as odd ones
pub total_label : (n : ℕ) (W : ℕ → Bool) (l : ℕ) → l < n → W l ≡ true → total n (λ c. signed (label_parity W c) (pos 1)) ≡ pos 0
total_label zero W l h e = absurd (omega arith)
total_label (suc n) W l h e = go (W 0) refl l h e (λ k below is. total_label n (later W) k below is)
  where
    even : ℤ
    even = total n (λ c. signed (label_parity (later W) c) (pos 1))

    at_false : total n (λ c. signed (label_parity W (false ∷ c)) (pos 1)) ≡ total n (λ c. signed (label_parity (later W) c) (pos 1))
    at_false = total-cong n _ _ (λ c k. rw (and-false (W 0)) refl)

    go : (b : Bool) → W 0 ≡ b → (l : ℕ) → l < suc n → W l ≡ true
        → ((k : ℕ) → k < n → W (suc k) ≡ true → total n (λ c. signed (label_parity (later W) c) (pos 1)) ≡ pos 0)
        → total n (λ c. signed (label_parity W (false ∷ c)) (pos 1)) +ℤ total n (λ c. signed (label_parity W (true ∷ c)) (pos 1)) ≡ pos 0
    go true w l below is rest =
        rw (at_false, at_true) (omega (arith, ints))
      where
        at_true : total n (λ c. signed (label_parity W (true ∷ c)) (pos 1))
            ≡ neg_ℤ (total n (λ c. signed (label_parity (later W) c) (pos 1)))
        at_true = total-cong n _ (λ c. neg_ℤ (signed (label_parity (later W) c) (pos 1)))
            (λ c k. rw w (signed-xor true (label_parity (later W) c) (pos 1))) ∙ total-neg n _
    go false w zero below is rest = absurd (true≢false (sym is ∙ w))
    go false w (suc k) below is rest = rw (at_false, at_true, rest k (omega arith) is) (omega (arith, ints))
      where
        at_true : total n (λ c. signed (label_parity W (true ∷ c)) (pos 1)) ≡ total n (λ c. signed (label_parity (later W) c) (pos 1))
        at_true = total-cong n _ _ (λ c k. rw w refl)

-- only the values of members count
pub parity-cong_members : (n : ℕ) (U v w : ℕ → Bool) → ((i : ℕ) → i < n → U i ≡ true → v i ≡ w i) → parity_below n U v ≡ parity_below n U w
parity-cong_members zero U v w e = refl
parity-cong_members (suc n) U v w e = go (cases_Bool (U n)) (parity-cong_members n U v w (λ i h k. e i (omega arith) k))
  where
    go : (U n ≡ true) ⊎ (U n ≡ false) → parity_below n U v ≡ parity_below n U w
        → xor (U n && v n) (parity_below n U v) ≡ xor (U n && w n) (parity_below n U w)
    go (inl k) rest = rw (e n (omega arith) k, rest) refl
    go (inr k) rest = rw (k, rest) refl
