-- Lists that are made along others, one item after the other.
use Rattle.std.proofs.Common.{◌≡◌, ℕ, ◌+◌, ◌<◌, zero, suc, Bool, true, false, cond, List, [], ◌∷◌, ◌++◌, take, drop, ◌-◌, ◌≤◌, filter, map, length, get_or, refl, ap, ◌∙◌, arith}
use Rattle.std.proofs.lemmas.List.{map-append, length-drop}
use Rattle.coco_model.specs.Goals.{same_pairs}

pub taken : {X : Type 0} (xs : List X) (i : ℕ) (x : X) → i < length xs → x ≡ get_or xs i x → take (i + 1) xs ≡ take i xs ++ x ∷ []
taken [] i x lt e = absurd (omega arith)
taken (y ∷ ys) zero x lt e = rw e refl
taken (y ∷ ys) (suc i) x lt e =
    let n : suc i + 1 ≡ suc (i + 1) = omega arith in
    rw n (ap (λ zs. y ∷ zs) (taken ys i x (omega arith) e))

filter_last : {X : Type 0} (p : X → Bool) (xs : List X) (x : X) → filter p (xs ++ x ∷ []) ≡ filter p xs ++ cond (p x) (x ∷ []) []
filter_last p [] x = pick (p x)
  where
    pick : (b : Bool) → cond b (x ∷ []) [] ≡ cond b (x ∷ []) []
    pick b = refl
filter_last p (y ∷ ys) x = step (p y) (filter_last p ys x)
  where
    step : (b : Bool) → filter p (ys ++ x ∷ []) ≡ filter p ys ++ cond (p x) (x ∷ []) []
        → cond b (y ∷ filter p (ys ++ x ∷ [])) (filter p (ys ++ x ∷ [])) ≡ cond b (y ∷ filter p ys) (filter p ys) ++ cond (p x) (x ∷ []) []
    step true e = ap (λ zs. y ∷ zs) e
    step false e = e

-- one more item passes a test or not
pub filter_taken : {X : Type 0} (p : X → Bool) (xs : List X) (i : ℕ) (x : X) → i < length xs → x ≡ get_or xs i x
    → filter p (take (i + 1) xs) ≡ filter p (take i xs) ++ cond (p x) (x ∷ []) []
filter_taken p xs i x lt e = ap (filter p) (taken xs i x lt e) ∙ filter_last p (take i xs) x

-- the same, where what passes is turned into something
pub mapped_taken : {X Y : Type 0} (f : X → Y) (p : X → Bool) (xs : List X) (i : ℕ) (x : X) → i < length xs → x ≡ get_or xs i x
    → map f (filter p (take (i + 1) xs)) ≡ map f (filter p (take i xs)) ++ cond (p x) (f x ∷ []) []
mapped_taken f p xs i x lt e =
    ap (map f) (filter_taken p xs i x lt e) ∙ (map-append f (filter p (take i xs)) (cond (p x) (x ∷ []) []) ∙ ap (λ zs. map f (filter p (take i xs)) ++ zs) (turned (p x)))
  where
    turned : (b : Bool) → map f (cond b (x ∷ []) []) ≡ cond b (f x ∷ []) []
    turned true = refl
    turned false = refl

-- a list of at most one item has no two successive ones
short_pairs : {X : Type 0} (literal : ℕ → Bool → X) (ls : List ℕ) → length ls ≤ 1 → same_pairs literal ls ≡ []
short_pairs literal [] le = refl
short_pairs literal (k ∷ []) le = refl
short_pairs literal (k ∷ l ∷ ls) le = absurd (omega arith)

pub last_pairs : {X : Type 0} (literal : ℕ → Bool → X) (ls : List ℕ) (i : ℕ) → length ls ≤ i + 1 → same_pairs literal (drop i ls) ≡ []
last_pairs literal ls i le =
    let e : length (drop i ls) ≡ length ls - i = length-drop i ls in
    short_pairs literal (drop i ls) (omega arith)
