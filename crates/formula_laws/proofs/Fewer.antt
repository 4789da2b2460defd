-- A list without repeats whose members are all in another is no longer than that one.
use Rattle.std.proofs.Common.{◌≡◌, ◌≢◌, ℕ, ◌+◌, ◌≤◌, ◌⊎◌, inl, inr, List, [], ◌∷◌, length, subst, arith}
use Rattle.std.specs.Prelude.{Contains}
use Rattle.coco_model.specs.Netlist.{HasNoRepeat}
use Rattle.coco_model.proofs.Basics.{Contains-here, Contains-later, Contains-cases, Contains-none}
use Rattle.probe_encode.proofs.GoalSizes.{IsAbove}

-- a list without one place of a member: it keeps all other members
record IsRest (ys : List ℕ) (x : ℕ) : Type 0 where
  rest : List ℕ
  shorter : length rest + 1 ≡ length ys
  others : (y : ℕ) → Contains ys y → y ≢ x → Contains rest y

without : (ys : List ℕ) (x : ℕ) → Contains ys x → IsRest ys x
without [] x h = absurd (Contains-none x h)
without (y ∷ ys) x h = go (Contains-cases y x ys h) (λ i. without ys x i)
  where
    first : (z : ℕ) → (y ≡ z) ⊎ Contains ys z → y ≡ x → z ≢ x → Contains ys z
    first z (inl same) is apart = absurd (apart (subst (λ k. k ≡ x) same is))
    first z (inr i) is apart = i

    later : (r : IsRest ys x) (z : ℕ) → (y ≡ z) ⊎ Contains ys z → z ≢ x → Contains (y ∷ r.rest) z
    later r z (inl same) apart = subst (Contains (y ∷ r.rest)) same (Contains-here y r.rest)
    later r z (inr i) apart = Contains-later y z r.rest (r.others z i apart)

    go : (y ≡ x) ⊎ Contains ys x → (Contains ys x → IsRest ys x) → IsRest (y ∷ ys) x
    go (inl is) next = record { rest = ys; shorter = omega arith; others = λ z i apart. first z (Contains-cases y z ys i) is apart }
    go (inr i) next =
        let r = next i in
        let e = r.shorter in
        record { rest = y ∷ r.rest; shorter = omega (arith, e); others = λ z j apart. later r z (Contains-cases y z ys j) apart }

pub few_in : (xs ys : List ℕ) → HasNoRepeat xs → ((x : ℕ) → Contains xs x → Contains ys x) → length xs ≤ length ys
few_in [] ys once all = omega arith
few_in (x ∷ xs) ys once all =
    let r = without ys x (all x (Contains-here x xs)) in
    let e = r.shorter in
    let few : length xs ≤ length r.rest =
    few_in xs r.rest once.1 (λ y h. r.others y (all y (Contains-later x y xs h)) (λ same. once.0 (subst (Contains xs) same h))) in
    omega (arith, e, few)

-- numbers each above the one before do not repeat
above_all : (a : ℕ) (ls : List ℕ) → IsAbove a ls → (x : ℕ) → Contains ls x → a ≤ x
above_all a [] h x i = absurd (Contains-none x i)
above_all a (l ∷ ls) h x i = go (Contains-cases l x ls i) (λ j. above_all (l + 1) ls h.1 x j)
  where
    go : (l ≡ x) ⊎ Contains ls x → (Contains ls x → l + 1 ≤ x) → a ≤ x
    go (inl same) rest = subst (λ k. a ≤ k) same h.0
    go (inr j) rest = let low = rest j in let first = h.0 in omega (arith, low, first)

pub above_once : (a : ℕ) (ls : List ℕ) → IsAbove a ls → HasNoRepeat ls
above_once a [] h = tt
above_once a (l ∷ ls) h = ((λ i. let low = above_all (l + 1) ls h.1 l i in omega (arith, low)), above_once (l + 1) ls h.1)
