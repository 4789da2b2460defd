-- A list without repeats of numbers below n has at most n members.
use Rattle.std.proofs.Common.{◌≡◌, ◌≢◌, ℕ, zero, suc, ◌<◌, ◌≤◌, ◌⊎◌, inl, inr, List, [], ◌∷◌, ◌++◌, length, sym, ◌∙◌, ap, subst, arith}
use Rattle.std.specs.Prelude.{Contains}
use Rattle.std.proofs.lemmas.List.{length-append}
use Rattle.std.proofs.lemmas.List.Elements.{Contains-append_left, Contains-append_right}
use Rattle.coco_model.specs.Netlist.{HasNoRepeat}
use Rattle.coco_model.proofs.Basics.{Contains-here, Contains-later, Contains-cases, Contains-none}
use Rattle.model_laws.proofs.Apart.{apart_parts, no_repeat-append}
use Rattle.model_laws.proofs.Lists.{contains_or_not}

-- a list around a member
record IsSplit (xs : List ℕ) (x : ℕ) : Type 0 where
  before : List ℕ
  behind : List ℕ
  is : xs ≡ before ++ x ∷ behind

split : (xs : List ℕ) (x : ℕ) → Contains xs x → IsSplit xs x
split [] x h = absurd (Contains-none x h)
split (y ∷ xs) x h = go (Contains-cases y x xs h) (λ i. split xs x i)
  where
    go : (y ≡ x) ⊎ Contains xs x → (Contains xs x → IsSplit xs x) → IsSplit (y ∷ xs) x
    go (inl e) rest = record { before = []; behind = xs; is = ap (λ z. z ∷ xs) e }
    go (inr i) rest = let s = rest i in record { before = y ∷ s.before; behind = s.behind; is = ap (λ zs. y ∷ zs) s.is }

pub member_append : (xs ys : List ℕ) (x : ℕ) → Contains (xs ++ ys) x → Contains xs x ⊎ Contains ys x
member_append [] ys x h = inr h
member_append (y ∷ xs) ys x h = go (Contains-cases y x (xs ++ ys) h) (λ i. member_append xs ys x i)
  where
    go : (y ≡ x) ⊎ Contains (xs ++ ys) x → (Contains (xs ++ ys) x → Contains xs x ⊎ Contains ys x) → Contains (y ∷ xs) x ⊎ Contains ys x
    go (inl e) rest = inl (subst (Contains (y ∷ xs)) e (Contains-here y xs))
    go (inr i) rest = later (rest i)
      where
        later : Contains xs x ⊎ Contains ys x → Contains (y ∷ xs) x ⊎ Contains ys x
        later (inl j) = inl (Contains-later y x xs j)
        later (inr j) = inr j

below_next : (x n : ℕ) → x < suc n → x ≢ n → x < n
below_next x n h d = omega arith

pub few_below : (n : ℕ) (xs : List ℕ) → HasNoRepeat xs → ((x : ℕ) → Contains xs x → x < n) → length xs ≤ n
few_below zero [] once below = omega arith
few_below zero (x ∷ xs) once below = let h = below x (Contains-here x xs) in absurd (omega arith)
few_below (suc n) xs once below = go (contains_or_not xs n) (λ ys o b. few_below n ys o b)
  where
    go : Contains xs n ⊎ (Contains xs n → ⊥) → ((ys : List ℕ) → HasNoRepeat ys → ((x : ℕ) → Contains ys x → x < n) → length ys ≤ n) → length xs ≤ suc n
    go (inr none) rest =
        let l = rest xs once (λ x i. below_next x n (below x i) (λ e. none (subst (Contains xs) e i))) in omega arith
    go (inl i) rest = by (split xs n i)
      where
        by : IsSplit xs n → length xs ≤ suc n
        by s =
            let a = apart_parts s.before (n ∷ s.behind) (subst HasNoRepeat s.is once) in
            let ys : List ℕ = s.before ++ s.behind in
            let o : HasNoRepeat (s.before ++ s.behind) = no_repeat-append s.before s.behind (record {
              left = a.left;
              right = a.right.1;
              apart = λ x j k. a.apart x j (Contains-later n x s.behind k);
            }) in
            let l : length (s.before ++ s.behind) ≤ n = rest (s.before ++ s.behind) o (λ x j. other x (member_append s.before s.behind x j)) in
            let e = ap length s.is ∙ length-append s.before (n ∷ s.behind) in
            let f = length-append s.before s.behind in
            omega arith
          where
            other : (x : ℕ) → Contains s.before x ⊎ Contains s.behind x → x < n
            other x (inl j) =
                let a = apart_parts s.before (n ∷ s.behind) (subst HasNoRepeat s.is once) in
                below_next x n (below x (subst (λ zs. Contains zs x) (sym s.is) (Contains-append_left s.before (n ∷ s.behind) x j)))
                (λ e. a.apart n (subst (Contains s.before) e j) (Contains-here n s.behind))
            other x (inr j) =
                let a = apart_parts s.before (n ∷ s.behind) (subst HasNoRepeat s.is once) in
                below_next x n (below x (subst (λ zs. Contains zs x) (sym s.is) (Contains-append_right s.before (n ∷ s.behind) x (Contains-later n x s.behind j))))
                (λ e. a.right.0 (subst (Contains s.behind) e j))
