-- Signed sums, place by place.
use Rattle.std.proofs.Common.{◌≡◌, ℕ, zero, suc, ◌+◌, ◌*◌, ◌^◌, ◌<◌, ◌≤◌, Bool, true, false, List, [], ◌∷◌, ◌++◌, map, length, take, drop, get_or, set, refl, sym, ◌∙◌, ap, arith, ℤ, ◌+ℤ◌, append_assoc, nat_eq, ◌%◌, ◌/◌, ◌-◌, lit≤, mul_comm, add-one, pow-suc, subst}
use Rattle.std.proofs.lemmas.Grind.{common_steps}
use Rattle.std.proofs.lemmas.Int.{ints}
use Rattle.coco_base.specs.declared.cell.Kind.{Kind}
use Rattle.coco_base.specs.declared.cell.Kind.TheVariants.{Buf, Not, And, Nand, Or, Nor, Xor, Xnor, AndNot, OrNot, Mux, Nmux, Aoi3, Oai3, Aoi4, Oai4}
use Rattle.coco_base.specs.declared.cell.Part.{Part}
use Rattle.coco_base.specs.declared.cell.Part.TheVariants.{Zero, One, Vary}
use Rattle.coco_model.specs.Cells.{output_of, input_count, xor, signed, subset_of_number, Subset, chosen_parity, allowed_inputs}
use Rattle.coco_model.proofs.Bits.{xor-swap, and-false, and-true}
use Rattle.coco_model.proofs.Signs.{sign_total-append, sign_total-map, sign_total-cong, sign_total-signed}
use Rattle.cell_table.specs.Sums.{sum_of, partial_sum, joined_sum, IsBounded}

-- a first place that is 0, is 1, or varies
pub sum-zero : (f : List Bool → Bool) (s : Bool) (ss : Subset) (ps : List Part) → sum_of f (s ∷ ss) (Zero ∷ ps) ≡ sum_of (λ xs. f (false ∷ xs)) ss ps
sum-zero f s ss ps =
    sign_total-map (λ inputs. xor (f inputs) (chosen_parity (s ∷ ss) inputs)) (λ (xs : List Bool). false ∷ xs) (allowed_inputs ps)
    ∙ sign_total-cong _ _ (λ x. rw (and-false s) refl) (allowed_inputs ps)

pub sum-one : (f : List Bool → Bool) (s : Bool) (ss : Subset) (ps : List Part) → sum_of f (s ∷ ss) (One ∷ ps) ≡ signed s (sum_of (λ xs. f (true ∷ xs)) ss ps)
sum-one f s ss ps =
    sign_total-map (λ inputs. xor (f inputs) (chosen_parity (s ∷ ss) inputs)) (λ (xs : List Bool). true ∷ xs) (allowed_inputs ps)
    ∙ sign_total-cong _ (λ xs. xor s (xor (f (true ∷ xs)) (chosen_parity ss xs))) (λ x. rw (and-true s) (xor-swap (f (true ∷ x)) s (chosen_parity ss x))) (allowed_inputs ps)
    ∙ sign_total-signed s (λ xs. xor (f (true ∷ xs)) (chosen_parity ss xs)) (allowed_inputs ps)

pub sum-vary : (f : List Bool → Bool) (s : Bool) (ss : Subset) (ps : List Part)
    → sum_of f (s ∷ ss) (Vary ∷ ps) ≡ sum_of (λ xs. f (false ∷ xs)) ss ps +ℤ signed s (sum_of (λ xs. f (true ∷ xs)) ss ps)
sum-vary f s ss ps =
    sign_total-append (λ inputs. xor (f inputs) (chosen_parity (s ∷ ss) inputs)) (map (λ (xs : List Bool). false ∷ xs) (allowed_inputs ps)) (map (λ (xs : List Bool). true ∷ xs) (allowed_inputs ps))
    ∙ rw (sum-zero f s ss ps, sum-one f s ss ps) refl

pub sum-cong : (f g : List Bool → Bool) → ((xs : List Bool) → f xs ≡ g xs) → (ss : Subset) (ps : List Part) → sum_of f ss ps ≡ sum_of g ss ps
sum-cong f g e ss ps = sign_total-cong _ _ (λ xs. rw (e xs) refl) (allowed_inputs ps)

-- how large sums are
pub IsBounded-signed : (n : ℕ) (s : Bool) (x : ℤ) → IsBounded n x → IsBounded n (signed s x)
IsBounded-signed n true x w = let l = w.low in let h = w.high in record { low = omega (arith, ints); high = omega (arith, ints) }
IsBounded-signed n false x w = w

pub IsBounded-add : (m n : ℕ) (x y : ℤ) → IsBounded m x → IsBounded m y → m + m ≤ n → IsBounded n (x +ℤ y)
IsBounded-add m n x y v w h =
    let a = v.low in let b = v.high in let c = w.low in let d = w.high in record { low = omega (arith, ints); high = omega (arith, ints) }

pub IsBounded-more : (m n : ℕ) (x : ℤ) → IsBounded m x → m ≤ n → IsBounded n x
IsBounded-more m n x w h = let l = w.low in let u = w.high in record { low = omega (arith, ints); high = omega (arith, ints) }

pub sum-joined : (f : List Bool → Bool) (p : Part) (s : Bool) (ss : Subset) (ps : List Part)
    → sum_of f (s ∷ ss) (p ∷ ps) ≡ joined_sum p s (sum_of (λ xs. f (false ∷ xs)) ss ps) (sum_of (λ xs. f (true ∷ xs)) ss ps)
sum-joined f Zero s ss ps = sum-zero f s ss ps
sum-joined f One s ss ps = sum-one f s ss ps
sum-joined f Vary s ss ps = sum-vary f s ss ps

pub IsBounded-joined : (n : ℕ) (p : Part) (s : Bool) (x y : ℤ) → IsBounded n x → IsBounded n y → IsBounded (n + n) (joined_sum p s x y)
IsBounded-joined n Zero s x y v w = IsBounded-more n (n + n) x v (omega arith)
IsBounded-joined n One s x y v w = IsBounded-more n (n + n) _ (IsBounded-signed n s y w) (omega arith)
IsBounded-joined n Vary s x y v w = IsBounded-add n (n + n) x _ v (IsBounded-signed n s y w) (omega arith)

-- giving a value to the place behind those that are given
put_behind : (given : List Bool) (place : ℕ) (b : Bool) → place < length given → take (suc place) (set given place b) ≡ take place given ++ b ∷ []
put_behind [] place b h = absurd (omega arith)
put_behind (g ∷ given) zero b h = refl
put_behind (g ∷ given) (suc place) b h = ap (λ xs. g ∷ xs) (put_behind given place b (omega arith))

-- one place more: the sum from a place on, from those with the place at 0 and at 1
pub partial-step : (kind : Kind) (given : List Bool) (place set_number : ℕ) (p : Part) (ps : List Part) → place < length given
    → partial_sum kind given place (subset_of_number (suc (length ps)) set_number) (p ∷ ps)
    ≡ joined_sum p (nat_eq (set_number % 2) 1) (partial_sum kind (set given place false) (suc place) (subset_of_number (length ps) (set_number / 2)) ps)
    (partial_sum kind (set given place true) (suc place) (subset_of_number (length ps) (set_number / 2)) ps)
partial-step kind given place n p ps h =
    sum-joined (λ xs. output_of kind (take place given ++ xs)) p (nat_eq (n % 2) 1) (subset_of_number (length ps) (n / 2)) ps
    ∙ ap2 (side false) (side true)
  where
    side : (b : Bool) → sum_of (λ xs. output_of kind (take place given ++ b ∷ xs)) (subset_of_number (length ps) (n / 2)) ps
        ≡ partial_sum kind (set given place b) (suc place) (subset_of_number (length ps) (n / 2)) ps
    side b = sum-cong _ _ (λ xs. ap (output_of kind) (sym (append_assoc (take place given) (b ∷ []) xs) ∙ ap (λ front. front ++ xs) (sym (put_behind given place b h)))) (subset_of_number (length ps) (n / 2)) ps

    ap2 : {x y u v : ℤ} → x ≡ u → y ≡ v → joined_sum p (nat_eq (n % 2) 1) x y ≡ joined_sum p (nat_eq (n % 2) 1) u v
    ap2 e f = rw (e, f) refl

-- a list with a first member, split as code splits it
abbrev pub rest_of : List Part → List Part
rest_of ps = take (length ps - 1) (drop 1 ps)

pub split_first : (ps : List Part) → 1 ≤ length ps → ps ≡ get_or ps 0 Zero ∷ rest_of ps
split_first [] h = absurd (omega arith)
split_first (p ∷ ps) h = ap (λ qs. p ∷ qs) (grind (arith, common_steps))

pub length-rest_of : (ps : List Part) → 1 ≤ length ps → suc (length (rest_of ps)) ≡ length ps
length-rest_of ps h = sym (ap length (split_first ps h))

input_count-four : (kind : Kind) → input_count kind ≤ 4
input_count-four Buf = lit≤ tt
input_count-four Not = lit≤ tt
input_count-four And = lit≤ tt
input_count-four Nand = lit≤ tt
input_count-four Or = lit≤ tt
input_count-four Nor = lit≤ tt
input_count-four Xor = lit≤ tt
input_count-four Xnor = lit≤ tt
input_count-four AndNot = lit≤ tt
input_count-four OrNot = lit≤ tt
input_count-four Mux = lit≤ tt
input_count-four Nmux = lit≤ tt
input_count-four Aoi3 = lit≤ tt
input_count-four Oai3 = lit≤ tt
input_count-four Aoi4 = lit≤ tt
input_count-four Oai4 = lit≤ tt

power_eight : (n : ℕ) → n ≤ 3 → 2 ^ n ≤ 8
power_eight zero h = lit≤ tt
power_eight (suc zero) h = lit≤ tt
power_eight (suc (suc zero)) h = lit≤ tt
power_eight (suc (suc (suc zero))) h = lit≤ tt
power_eight (suc (suc (suc (suc n)))) h = absurd (omega arith)

pub bounded_by_eight : (kind : Kind) (place : ℕ) (ps : List Part) (x : ℤ) → place + length ps ≡ input_count kind → 1 ≤ length ps
    → IsBounded (2 ^ length (rest_of ps)) x → IsBounded 8 x
bounded_by_eight kind place ps x e h w =
    let four = input_count-four kind in let n = length-rest_of ps h in
    IsBounded-more (2 ^ length (rest_of ps)) 8 x w (power_eight (length (rest_of ps)) (omega arith))

pub sum-returns : (kind : Kind) (given : List Bool) (place n : ℕ) (ps : List Part) (zero_sum one_sum r : ℤ)
    → length given ≡ 4 → place + length ps ≡ input_count kind → 1 ≤ length ps
    → zero_sum ≡ partial_sum kind (set given place false) (place + 1) (subset_of_number (length (rest_of ps)) (n / 2)) (rest_of ps)
    → one_sum ≡ partial_sum kind (set given place true) (place + 1) (subset_of_number (length (rest_of ps)) (n / 2)) (rest_of ps)
    → r ≡ joined_sum (get_or ps 0 Zero) (nat_eq (n % 2) 1) zero_sum one_sum
    → r ≡ partial_sum kind given place (subset_of_number (length ps) n) ps
sum-returns kind given place n ps zero_sum one_sum r g e h z o j =
    let four = input_count-four kind in
    j ∙ rw (z, o, add-one place) (sym (partial-step kind given place n (get_or ps 0 Zero) (rest_of ps) (omega arith)))
    ∙ ap2
  where
    ap2 : partial_sum kind given place (subset_of_number (suc (length (rest_of ps))) n) (get_or ps 0 Zero ∷ rest_of ps)
        ≡ partial_sum kind given place (subset_of_number (length ps) n) ps
    ap2 = ap (λ qs. partial_sum kind given place (subset_of_number (length qs) n) qs) (sym (split_first ps h))

pub IsBounded-returns : (ps : List Part) (p : Part) (s : Bool) (x y r : ℤ) → 1 ≤ length ps → IsBounded (2 ^ length (rest_of ps)) x → IsBounded (2 ^ length (rest_of ps)) y
    → r ≡ joined_sum p s x y → IsBounded (2 ^ length ps) r
IsBounded-returns ps p s x y r h v w e =
    rw (← length-rest_of ps h, pow-suc 2 (length (rest_of ps)), mul_comm (2 ^ length (rest_of ps)) 2) (subst (λ q. IsBounded (2 * 2 ^ length (rest_of ps)) q) (sym e)
    (IsBounded-more (2 ^ length (rest_of ps) + 2 ^ length (rest_of ps)) (2 * 2 ^ length (rest_of ps)) _ (IsBounded-joined (2 ^ length (rest_of ps)) p s x y v w) (omega arith)))

-- the inputs of a kind among four places are as many as the kind has
pub length-input_places : (kind : Kind) (ps : List Part) → length ps ≡ 4 → length (take (input_count kind) ps) ≡ input_count kind
length-input_places kind ps h = let four = input_count-four kind in grind (arith, common_steps, h, four)
