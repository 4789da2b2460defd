-- How many choices of n bits pass a test.
use Rattle.std.proofs.Common.{◌≡◌, ℕ, zero, suc, ◌+◌, Bool, true, false, cond, ◌&&◌, List, [], ◌∷◌, map, length, refl, ◌∙◌, ap, arith, length-append}
use Rattle.std.specs.Prelude.{filter}
use Rattle.std.proofs.lemmas.List.Elements.{filter-append}
use Rattle.coco_model.specs.Labels.{Choice, choices}

abbrev pub count : ℕ → (Choice → Bool) → ℕ
count zero p = cond (p []) 1 0
count (suc n) p = count n (λ c. p (false ∷ c)) + count n (λ c. p (true ∷ c))

pub count-cong : (n : ℕ) (p q : Choice → Bool) → ((c : Choice) → length c ≡ n → p c ≡ q c) → count n p ≡ count n q
count-cong zero p q e = rw (e [] refl) refl
count-cong (suc n) p q e =
    let a = count-cong n (λ c. p (false ∷ c)) (λ c. q (false ∷ c)) (λ c h. e (false ∷ c) (ap suc h)) in
    let b = count-cong n (λ c. p (true ∷ c)) (λ c. q (true ∷ c)) (λ c h. e (true ∷ c) (ap suc h)) in
    omega arith

-- filtered lists
length-filter-map : {X Y : Type 0} (p : Y → Bool) (f : X → Y) (xs : List X)
    → length (filter p (map f xs)) ≡ length (filter (λ x. p (f x)) xs)
length-filter-map p f [] = refl
length-filter-map p f (x ∷ xs) = go (p (f x)) (length-filter-map p f xs)
  where
    go : (b : Bool) → length (filter p (map f xs)) ≡ length (filter (λ x. p (f x)) xs)
        → length (cond b (f x ∷ filter p (map f xs)) (filter p (map f xs)))
        ≡ length (cond b (x ∷ filter (λ x. p (f x)) xs) (filter (λ x. p (f x)) xs))
    go true rest = ap suc rest
    go false rest = rest

filter-filter : {X : Type 0} (p q : X → Bool) (xs : List X) → filter p (filter q xs) ≡ filter (λ x. q x && p x) xs
filter-filter p q [] = refl
filter-filter p q (x ∷ xs) = go (q x) (filter-filter p q xs)
  where
    go : (b : Bool) → filter p (filter q xs) ≡ filter (λ x. q x && p x) xs
        → filter p (cond b (x ∷ filter q xs) (filter q xs))
        ≡ cond (b && p x) (x ∷ filter (λ x. q x && p x) xs) (filter (λ x. q x && p x) xs)
    go true e = rw e refl
    go false e = e

length-one : {X : Type 0} (x : X) (b : Bool) → length (cond b (x ∷ []) []) ≡ cond b 1 0
length-one x true = refl
length-one x false = refl

-- the choices that pass a test, as a list, are as many
pub filtered_choices : (n : ℕ) (p : Choice → Bool) → length (filter p (choices n)) ≡ count n p
filtered_choices zero p = length-one [] (p [])
filtered_choices (suc n) p =
    let a = filtered_choices n (λ c. p (false ∷ c)) in
    let b = filtered_choices n (λ c. p (true ∷ c)) in
    ap length (filter-append p (map (λ (c : Choice). false ∷ c) (choices n)) (map (λ (c : Choice). true ∷ c) (choices n)))
    ∙ length-append (filter p (map (λ (c : Choice). false ∷ c) (choices n))) (filter p (map (λ (c : Choice). true ∷ c) (choices n)))
    ∙ rw (length-filter-map p (λ (c : Choice). false ∷ c) (choices n), length-filter-map p (λ (c : Choice). true ∷ c) (choices n), a, b)
    refl

pub filtered_twice : (n : ℕ) (p q : Choice → Bool) → length (filter p (filter q (choices n))) ≡ count n (λ c. q c && p c)
filtered_twice n p q = ap length (filter-filter p q (choices n)) ∙ filtered_choices n (λ c. q c && p c)
