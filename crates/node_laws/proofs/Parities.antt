-- The sum of the weighed nodes' sets, one node more and with another weight.
use Rattle.std.proofs.Common.{◌≡◌, ◌≢◌, ℕ, zero, suc, ◌+◌, ◌<◌, ◌≤◌, Bool, true, false, ◌&&◌, List, [], ◌∷◌, ◌++◌, map, length, get_or, refl, sym, ap, ap₂, ◌∙◌, arith, inl, inr}
use Rattle.std.specs.List.{range_with_len}
use Rattle.std.proofs.lemmas.Bool.{cases_eq}
use Rattle.coco_model.specs.Cells.{xor, Subset}
use Rattle.coco_model.specs.Labels.{parity}
use Rattle.coco_model.specs.Findings.{Labels, chosen_set}
use Rattle.circuit_clauses.specs.declared.signal.Signal.{Signal}
use Rattle.node_laws.specs.Readings.{weighed_sum}
use Rattle.node_laws.proofs.Meant.{value_at, Adds}

pub xor_assoc : (a b c : Bool) → xor (xor a b) c ≡ xor a (xor b c)
xor_assoc true true true = refl
xor_assoc true true false = refl
xor_assoc true false c = refl
xor_assoc false b c = refl

pub xor_comm : (a b : Bool) → xor a b ≡ xor b a
xor_comm true true = refl
xor_comm true false = refl
xor_comm false true = refl
xor_comm false false = refl

pub xor_false : (a : Bool) → xor a false ≡ a
xor_false true = refl
xor_false false = refl

pub xor_last : (a b c : Bool) → xor (xor a b) c ≡ xor (xor a c) b
xor_last a b c = xor_assoc a b c ∙ ap (xor a) (xor_comm b c) ∙ sym (xor_assoc a c b)

pub and_false : (a : Bool) → (a && false) ≡ false
and_false true = refl
and_false false = refl

pub and_true : (a : Bool) → (a && true) ≡ a
and_true true = refl
and_true false = refl

pub and_xor : (a b c : Bool) → (xor a b && c) ≡ xor (a && c) (b && c)
and_xor true true true = refl
and_xor true true false = refl
and_xor true false true = refl
and_xor true false false = refl
and_xor false b c = refl

-- ---- the exclusive or of the first bits of a row

abbrev pub parity_to : (ℕ → Bool) → ℕ → Bool
parity_to f zero = false
parity_to f (suc n) = xor (parity_to f n) (f n)

parity-append : (xs : List Bool) (b : Bool) → parity (xs ++ b ∷ []) ≡ xor (parity xs) b
parity-append [] b = xor_false b
parity-append (x ∷ xs) b = ap (xor x) (parity-append xs b) ∙ sym (xor_assoc x (parity xs) b)

from_front : (f : ℕ → Bool) (a n : ℕ) → parity (map f (range_with_len a n)) ≡ parity_to (λ k. f (a + k)) n
from_front f a zero = refl
from_front f a (suc n) = ap (xor (f a)) (from_front f (a + 1) n) ∙ shifted (λ k. f (a + k)) (λ k. f (a + 1 + k)) n (let e : a ≡ a + 0 = omega arith in ap f e) (λ k. let e : a + 1 + k ≡ a + suc k = omega arith in ap f e)
  where
    shifted : (g h : ℕ → Bool) (n : ℕ) → f a ≡ g 0 → ((k : ℕ) → h k ≡ g (suc k)) → xor (f a) (parity_to h n) ≡ parity_to g (suc n)
    shifted g h zero e same = xor_false (f a) ∙ e
    shifted g h (suc n) e same = sym (xor_assoc (f a) (parity_to h n) (h n)) ∙ ap₂ xor (shifted g h n e same) (same n)

pub parity-same : (f g : ℕ → Bool) (n : ℕ) → ((k : ℕ) → k < n → f k ≡ g k) → parity_to f n ≡ parity_to g n
parity-same f g zero same = refl
parity-same f g (suc n) same = ap₂ xor (parity-same f g n (λ k lt. same k (omega arith))) (same n (omega arith))

-- bits that are false past a number add nothing
pub parity-past : (f : ℕ → Bool) (m n : ℕ) → ((k : ℕ) → m ≤ k → f k ≡ false) → parity_to f (m + n) ≡ parity_to f m
parity-past f m zero none = let e : m + 0 ≡ m = omega arith in ap (parity_to f) e
parity-past f m (suc n) none =
    let e : m + suc n ≡ suc (m + n) = omega arith in
    ap (parity_to f) e ∙ ap (xor (parity_to f (m + n))) (none (m + n) (omega arith)) ∙ xor_false (parity_to f (m + n)) ∙ parity-past f m n none

-- one bit that differs
pub parity-one : (f g : ℕ → Bool) (n place : ℕ) (bit : Bool) → place < n → g place ≡ xor (f place) bit → ((k : ℕ) → k ≢ place → g k ≡ f k)
    → parity_to g n ≡ xor (parity_to f n) bit
parity-one f g zero place bit lt here other = absurd (omega arith)
parity-one f g (suc n) place bit lt here other = elim (cases_eq n place) [
  | inl same ↦ ap₂ xor (parity-same g f n (λ k low. other k (λ e. omega (arith, low, e, same)))) (ap g same ∙ here ∙ ap (λ k. xor (f k) bit) (sym same))
      ∙ sym (xor_assoc (parity_to f n) (f n) bit)
  | inr apart ↦ ap₂ xor (parity-one f g n place bit (omega (arith, lt, apart)) here other) (other n apart) ∙ xor_last (parity_to f n) bit (f n)
]

pub parity-front : (f : ℕ → Bool) (n : ℕ) → parity_to f (suc n) ≡ xor (f 0) (parity_to (λ k. f (suc k)) n)
parity-front f zero = sym (xor_false (f 0))
parity-front f (suc n) = ap (λ b. xor b (f (suc n))) (parity-front f n) ∙ xor_assoc (f 0) (parity_to (λ k. f (suc k)) n) (f (suc n))

-- ---- weighed sets

-- whether a label is in the sum of the sets of the first nodes that are weighed
abbrev pub sum_to : (ℕ → Bool) → List Signal → (ℕ → Labels) → ℕ → ℕ → Bool
sum_to values weights sets l n = parity_to (λ i. value_at values weights i && sets i l) n

pub weighed-is : (values : ℕ → Bool) (weights : List Signal) (sets : ℕ → Labels) (n l : ℕ)
    → weighed_sum values weights sets n l ≡ sum_to values weights sets l n
weighed-is values weights sets n l =
    from_front (λ i. value_at values weights i && sets i l) 0 n
    ∙ parity-same (λ k. value_at values weights (0 + k) && sets (0 + k) l) (λ i. value_at values weights i && sets i l) n
    (λ k lt. let e : 0 + k ≡ k = omega arith in ap (λ i. value_at values weights i && sets i l) e)

-- a node more often in the sum adds its set
pub sum-adds : (values : ℕ → Bool) (row next : List Signal) (place : ℕ) (bit : Bool) (sets : ℕ → Labels) (l n : ℕ) → n ≤ length row
    → (bit ≡ true → place < n) → Adds values row place bit next → sum_to values next sets l n ≡ xor (sum_to values row sets l n) (bit && sets place l)
sum-adds values row next place true sets l n long low adds =
    parity-one (λ i. value_at values row i && sets i l) (λ i. value_at values next i && sets i l) n place (sets place l) (low refl)
    (ap (λ b. b && sets place l) (adds.here (let lt = low refl in omega arith)) ∙ and_xor (value_at values row place) true (sets place l))
    (λ k other. ap (λ b. b && sets k l) (adds.elsewhere k other))
sum-adds values row next place false sets l n long low adds =
    parity-same (λ i. value_at values next i && sets i l) (λ i. value_at values row i && sets i l) n
    (λ k lt. ap (λ b. b && sets k l) (unchanged k lt)) ∙ sym (xor_false (sum_to values row sets l n))
  where
    unchanged : (k : ℕ) → k < n → value_at values next k ≡ value_at values row k
    unchanged k lt = elim (cases_eq k place) [
      | inl same ↦ ap (value_at values next) same ∙ adds.here (omega (arith, long, lt, same)) ∙ xor_false (value_at values row place) ∙ ap (value_at values row) (sym same)
      | inr other ↦ adds.elsewhere k other
    ]

-- the set that places choose, place by place
pub chosen-places : (sets : ℕ → Labels) (subset : Subset) (operands : List ℕ) (l : ℕ) → length subset ≤ length operands
    → chosen_set sets subset operands l ≡ parity_to (λ p. get_or subset p false && sets (get_or operands p 0) l) (length subset)
chosen-places sets [] operands l long = refl
chosen-places sets (s ∷ ss) [] l long = absurd (omega arith)
chosen-places sets (s ∷ ss) (o ∷ os) l long =
    ap (xor (s && sets o l)) (chosen-places sets ss os l (omega arith))
    ∙ sym (parity-front (λ p. get_or (s ∷ ss) p false && sets (get_or (o ∷ os) p 0) l) (length ss))
