-- Ascending lists of numbers: one for its members, and one for each test.
use Rattle.std.proofs.Common.{◌≡◌, ℕ, zero, suc, ◌+◌, ◌<◌, ◌≤◌, ◌⊎◌, inl, inr, List, [], ◌∷◌, ◌++◌, get_or, refl, sym, subst, arith}
use Rattle.std.specs.Prelude.{Contains}
use Rattle.std.specs.List.Sorted.{IsStrictlyIncreasing}
use Rattle.std.proofs.lemmas.Bool.{cases_eq}
use Rattle.std.proofs.lemmas.List.Elements.{Contains-push_cases}
use Rattle.coco_model.proofs.Basics.{Contains-here, Contains-later, Contains-cases, Contains-none}

-- ascending, by head and tail
pub record IsAscending (x : ℕ) (xs : List ℕ) : Type 0 where
  pub above : (l : ℕ) → Contains xs l → x < l
  pub rest : IsStrictlyIncreasing xs

tail_ascending : (x : ℕ) (xs : List ℕ) → IsStrictlyIncreasing (x ∷ xs) → IsStrictlyIncreasing xs
tail_ascending x xs up k below =
    let e : suc k + 1 ≡ suc (k + 1) = omega arith in subst (λ j. get_or xs k 0 < get_or (x ∷ xs) j 0) e (up (suc k) (omega arith))

pub ascending_parts : (x : ℕ) (xs : List ℕ) → IsStrictlyIncreasing (x ∷ xs) → IsAscending x xs
ascending_parts x xs up = record { above = λ l h. above x xs up l h; rest = tail_ascending x xs up }
  where
    above : (x : ℕ) (xs : List ℕ) → IsStrictlyIncreasing (x ∷ xs) → (l : ℕ) → Contains xs l → x < l
    above x [] up l h = absurd (Contains-none l h)
    above x (y ∷ ys) up l h = go (Contains-cases y l ys h) (λ i. above y ys (tail_ascending x (y ∷ ys) up) l i)
      where
        first : x < y
        first = up 0 (omega arith)

        go : (y ≡ l) ⊎ Contains ys l → (Contains ys l → y < l) → x < l
        go (inl e) later = let f = first in omega arith
        go (inr i) later = let e = later i in let f = first in omega arith

pub ascending_cons : (x : ℕ) (xs : List ℕ) → ((l : ℕ) → Contains xs l → x < l) → IsStrictlyIncreasing xs → IsStrictlyIncreasing (x ∷ xs)
ascending_cons x [] above up = λ k below. absurd (omega arith)
ascending_cons x (y ∷ ys) above up = go
  where
    go : IsStrictlyIncreasing (x ∷ y ∷ ys)
    go zero below = above y (Contains-here y ys)
    go (suc k) below =
        let e : suc (k + 1) ≡ suc k + 1 = omega arith in subst (λ j. get_or (y ∷ ys) k 0 < get_or (x ∷ y ∷ ys) j 0) e (up k (omega arith))

-- ascending lists with the same members are one
pub same_ascending : (xs ys : List ℕ) → IsStrictlyIncreasing xs → IsStrictlyIncreasing ys → ((l : ℕ) → Contains xs l → Contains ys l)
    → ((l : ℕ) → Contains ys l → Contains xs l) → xs ≡ ys
same_ascending [] [] up down there back = refl
same_ascending [] (y ∷ ys) up down there back = absurd (Contains-none y (back y (Contains-here y ys)))
same_ascending (x ∷ xs) [] up down there back = absurd (Contains-none x (there x (Contains-here x xs)))
same_ascending (x ∷ xs) (y ∷ ys) up down there back =
    let tails : xs ≡ ys = same_ascending xs ys left.rest right.rest
    (λ l h. tail_of y l ys (let e = left.above l h in let f = heads in λ g. omega arith) (there l (Contains-later x l xs h)))
    (λ l h. tail_of x l xs (let e = right.above l h in let f = heads in λ g. omega arith) (back l (Contains-later y l ys h))) in
    let same : x ≡ y = heads in cc
  where
    left : IsAscending x xs
    left = ascending_parts x xs up

    right : IsAscending y ys
    right = ascending_parts y ys down

    heads : x ≡ y
    heads = go (Contains-cases y x ys (there x (Contains-here x xs))) (Contains-cases x y xs (back y (Contains-here y ys)))
      where
        go : (y ≡ x) ⊎ Contains ys x → (x ≡ y) ⊎ Contains xs y → x ≡ y
        go (inl e) other = sym e
        go (inr h) (inl e) = e
        go (inr h) (inr i) = absurd (let e = right.above x h in let f = left.above y i in omega arith)

    tail_of : (z l : ℕ) (zs : List ℕ) → (z ≡ l → ⊥) → Contains (z ∷ zs) l → Contains zs l
    tail_of z l zs apart h = go (Contains-cases z l zs h)
      where
        go : (z ≡ l) ⊎ Contains zs l → Contains zs l
        go (inl e) = absurd (apart e)
        go (inr i) = i

-- the ascending list of the numbers of which P holds, of n numbers from one on
pub record HasList (P : ℕ → Type 0) (first count : ℕ) : Type 0 where
  pub listed : List ℕ
  pub up : IsStrictlyIncreasing listed
  pub sound : (l : ℕ) → Contains listed l → (first ≤ l) × P l
  pub complete : (l : ℕ) → first ≤ l → l < first + count → P l → Contains listed l

pub list_of : (P : ℕ → Type 0) → ((l : ℕ) → P l ⊎ (P l → ⊥)) → (first count : ℕ) → HasList P first count
list_of P decide first zero =
    record { listed = []; up = λ k below. absurd (omega arith); sound = λ l h. absurd (Contains-none l h); complete = λ l low high p. absurd (omega arith) }
list_of P decide first (suc count) = go (decide first) (list_of P decide (suc first) count)
  where
    go : P first ⊎ (P first → ⊥) → HasList P (suc first) count → HasList P first (suc count)
    go (inr n) r = record {
      listed = r.listed;
      up = r.up;
      sound = λ l h. let s = r.sound l h in (omega arith, s.1);
      complete = λ l low high p. later l low high p (cases_eq first l);
    }
      where
        later : (l : ℕ) → first ≤ l → l < first + suc count → P l → (first ≡ l) ⊎ (first ≡ l → ⊥) → Contains r.listed l
        later l low high p (inl e) = absurd (n (subst P (sym e) p))
        later l low high p (inr apart) = r.complete l (omega arith) (omega arith) p
    go (inl p) r = record {
      listed = first ∷ r.listed;
      up = ascending_cons first r.listed (λ l h. let s = r.sound l h in omega arith) r.up;
      sound = λ l h. either l (Contains-cases first l r.listed h);
      complete = λ l low high q. later l low high q (cases_eq first l);
    }
      where
        either : (l : ℕ) → (first ≡ l) ⊎ Contains r.listed l → (first ≤ l) × P l
        either l (inl e) = (omega arith, subst P e p)
        either l (inr h) = let s = r.sound l h in (omega arith, s.1)

        later : (l : ℕ) → first ≤ l → l < first + suc count → P l → (first ≡ l) ⊎ (first ≡ l → ⊥) → Contains (first ∷ r.listed) l
        later l low high q (inl e) = subst (Contains (first ∷ r.listed)) e (Contains-here first r.listed)
        later l low high q (inr apart) = Contains-later first l r.listed (r.complete l (omega arith) (omega arith) q)

-- a higher number at the end
pub ascending_push : (xs : List ℕ) (x : ℕ) → ((l : ℕ) → Contains xs l → l < x) → IsStrictlyIncreasing xs → IsStrictlyIncreasing (xs ++ x ∷ [])
ascending_push [] x below up = λ k within. absurd (omega arith)
ascending_push (y ∷ ys) x below up =
    ascending_cons y (ys ++ x ∷ []) (λ l h. above l (Contains-push_cases ys x l h))
    (ascending_push ys x (λ l h. below l (Contains-later y l ys h)) parts.rest)
  where
    parts : IsAscending y ys
    parts = ascending_parts y ys up

    above : (l : ℕ) → Contains ys l ⊎ (x ≡ l) → y < l
    above l (inl i) = parts.above l i
    above l (inr e) = subst (λ k. y < k) e (below y (Contains-here y ys))
