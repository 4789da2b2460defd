-- Sums over all choices of n bits.
use Rattle.std.proofs.Common.{◌≡◌, ℕ, zero, suc, Bool, true, false, [], ◌∷◌, length, refl, ◌∙◌, ap, arith, ℤ, pos, negsuc, neg_ℤ, ◌+ℤ◌}
use Rattle.std.proofs.lemmas.Int.{ints}
use Rattle.coco_model.specs.Cells.{signed, sign_total}
use Rattle.coco_model.specs.Labels.{Choice, choices}
use Rattle.coco_model.proofs.Bits.{signed-add, signed-zero}
use Rattle.coco_model.proofs.Signs.{sign_total-halves}

abbrev pub total : ℕ → (Choice → ℤ) → ℤ
total zero f = f []
total (suc n) f = total n (λ c. f (false ∷ c)) +ℤ total n (λ c. f (true ∷ c))

pub total-cong : (n : ℕ) (f g : Choice → ℤ) → ((c : Choice) → length c ≡ n → f c ≡ g c) → total n f ≡ total n g
total-cong zero f g e = e [] refl
total-cong (suc n) f g e =
    ap (λ x. x +ℤ total n (λ c. f (true ∷ c))) (total-cong n (λ c. f (false ∷ c)) (λ c. g (false ∷ c)) (λ c h. e (false ∷ c) (ap suc h)))
    ∙ ap (λ x. total n (λ c. g (false ∷ c)) +ℤ x) (total-cong n (λ c. f (true ∷ c)) (λ c. g (true ∷ c)) (λ c h. e (true ∷ c) (ap suc h)))

pub total-add : (n : ℕ) (f g : Choice → ℤ) → total n (λ c. f c +ℤ g c) ≡ total n f +ℤ total n g
total-add zero f g = refl
total-add (suc n) f g =
    let a = total-add n (λ c. f (false ∷ c)) (λ c. g (false ∷ c)) in
    let b = total-add n (λ c. f (true ∷ c)) (λ c. g (true ∷ c)) in
    omega (arith, ints)

pub total-neg : (n : ℕ) (f : Choice → ℤ) → total n (λ c. neg_ℤ (f c)) ≡ neg_ℤ (total n f)
total-neg zero f = refl
total-neg (suc n) f =
    let a = total-neg n (λ c. f (false ∷ c)) in
    let b = total-neg n (λ c. f (true ∷ c)) in
    omega (arith, ints)

pub total-signed : (n : ℕ) (b : Bool) (f : Choice → ℤ) → total n (λ c. signed b (f c)) ≡ signed b (total n f)
total-signed n true f = total-neg n f
total-signed n false f = refl

pub total_none : (n : ℕ) (f : Choice → ℤ) → ((c : Choice) → length c ≡ n → f c ≡ pos 0) → total n f ≡ pos 0
total_none zero f e = e [] refl
total_none (suc n) f e =
    let a = total_none n (λ c. f (false ∷ c)) (λ c h. e (false ∷ c) (ap suc h)) in
    let b = total_none n (λ c. f (true ∷ c)) (λ c h. e (true ∷ c) (ap suc h)) in
    omega (arith, ints)

-- signs that add up to 0 do so with one factor
pub total_factor-pos : (n : ℕ) (g : Choice → Bool) → total n (λ c. signed (g c) (pos 1)) ≡ pos 0 → (k : ℕ)
    → total n (λ c. signed (g c) (pos k)) ≡ pos 0
total_factor-pos n g e zero = total_none n (λ c. signed (g c) (pos 0)) (λ c h. signed-zero (g c))
total_factor-pos n g e (suc k) =
    let rest = total_factor-pos n g e k in
    total-cong n (λ c. signed (g c) (pos (suc k))) (λ c. signed (g c) (pos k) +ℤ signed (g c) (pos 1))
    (λ c h. ap (signed (g c)) (one_more k) ∙ signed-add (g c) (pos k) (pos 1))
    ∙ total-add n (λ c. signed (g c) (pos k)) (λ c. signed (g c) (pos 1)) ∙ rw (rest, e) (omega (arith, ints))
  where
    one_more : (k : ℕ) → pos (suc k) ≡ pos k +ℤ pos 1
    one_more k = omega (arith, ints)

pub total_factor : (n : ℕ) (g : Choice → Bool) → total n (λ c. signed (g c) (pos 1)) ≡ pos 0 → (x : ℤ)
    → total n (λ c. signed (g c) x) ≡ pos 0
total_factor n g e (pos k) = total_factor-pos n g e k
total_factor n g e (negsuc k) =
    let rest = total_factor-pos n g e (suc k) in
    total-cong n (λ c. signed (g c) (negsuc k)) (λ c. neg_ℤ (signed (g c) (pos (suc k)))) (λ c h. turned (g c))
    ∙ total-neg n (λ c. signed (g c) (pos (suc k))) ∙ rw rest (omega (arith, ints))
  where
    turned : (b : Bool) → signed b (negsuc k) ≡ neg_ℤ (signed b (pos (suc k)))
    turned true = omega (arith, ints)
    turned false = omega (arith, ints)

pub sign_total-choices : (n : ℕ) (f : Choice → Bool) → sign_total f (choices n) ≡ total n (λ c. signed (f c) (pos 1))
sign_total-choices zero f = omega (arith, ints)
sign_total-choices (suc n) f =
    sign_total-halves f (choices n) (choices n)
    ∙ rw (sign_total-choices n (λ c. f (false ∷ c)), sign_total-choices n (λ c. f (true ∷ c))) refl
