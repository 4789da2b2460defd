-- Sums of signs over lists of input values.
use Rattle.std.proofs.Common.{◌≡◌, Bool, true, false, List, [], ◌∷◌, ◌++◌, map, refl, ◌∙◌, arith, pos, ◌+ℤ◌}
use Rattle.std.proofs.lemmas.Int.{ints}
use Rattle.coco_model.specs.Cells.{xor, signed, sign_total}
use Rattle.coco_model.proofs.Bits.{signed-xor, signed-add}

pub sign_total-append : (f : List Bool → Bool) (xs ys : List (List Bool)) → sign_total f (xs ++ ys) ≡ sign_total f xs +ℤ sign_total f ys
sign_total-append f [] ys = omega (arith, ints)
sign_total-append f (x ∷ xs) ys = rw (sign_total-append f xs ys) (omega (arith, ints))

pub sign_total-map : (f : List Bool → Bool) (g : List Bool → List Bool) (xs : List (List Bool))
    → sign_total f (map g xs) ≡ sign_total (λ x. f (g x)) xs
sign_total-map f g [] = refl
sign_total-map f g (x ∷ xs) = rw (sign_total-map f g xs) refl

pub sign_total-cong : (f g : List Bool → Bool) → ((x : List Bool) → f x ≡ g x) → (xs : List (List Bool)) → sign_total f xs ≡ sign_total g xs
sign_total-cong f g e [] = refl
sign_total-cong f g e (x ∷ xs) = rw (e x, sign_total-cong f g e xs) refl

pub sign_total-signed : (b : Bool) (f : List Bool → Bool) (xs : List (List Bool))
    → sign_total (λ x. xor b (f x)) xs ≡ signed b (sign_total f xs)
sign_total-signed true f [] = refl
sign_total-signed false f [] = refl
sign_total-signed b f (x ∷ xs) = rw (
  sign_total-signed b f xs,
  signed-xor b (f x) (pos 1),
  signed-add b (signed (f x) (pos 1))
      (sign_total f xs),
) refl

pub sign_total-halves : (f : List Bool → Bool) (xs ys : List (List Bool))
    → sign_total f (map (λ (c : List Bool). false ∷ c) xs ++ map (λ (c : List Bool). true ∷ c) ys)
    ≡ sign_total (λ c. f (false ∷ c)) xs +ℤ sign_total (λ c. f (true ∷ c)) ys
sign_total-halves f xs ys =
    sign_total-append f (map (λ (c : List Bool). false ∷ c) xs) (map (λ (c : List Bool). true ∷ c) ys)
    ∙ rw (sign_total-map f (λ (c : List Bool). false ∷ c) xs, sign_total-map f (λ (c : List Bool). true ∷ c) ys) refl
