-- The numbers of a range, each once.
use Rattle.std.proofs.Common.{◌≡◌, ℕ, zero, suc, ◌+◌, ◌<◌, ◌≤◌, ◌⊎◌, inl, inr, ◌∷◌, ◌++◌, ◌∙◌, ap, subst, arith}
use Rattle.std.specs.Prelude.{Contains}
use Rattle.std.specs.List.{range_with_len}
use Rattle.std.proofs.lemmas.Bool.{cases_eq}
use Rattle.coco_model.specs.Netlist.{HasNoRepeat}
use Rattle.coco_model.proofs.Basics.{Contains-here, Contains-later, Contains-cases, Contains-none}

pub range_place : (a n k : ℕ) → Contains (range_with_len a n) k → (a ≤ k) × (k < a + n)
range_place a zero k h = absurd (Contains-none k h)
range_place a (suc n) k h = go (Contains-cases a k (range_with_len (a + 1) n) h) (range_place (a + 1) n k)
  where
    go : (a ≡ k) ⊎ Contains (range_with_len (a + 1) n) k → (Contains (range_with_len (a + 1) n) k → (a + 1 ≤ k) × (k < a + 1 + n))
        → (a ≤ k) × (k < a + suc n)
    go (inl e) rest = (omega (arith, e), omega (arith, e))
    go (inr i) rest = let r = rest i in let low = r.0 in let high = r.1 in (omega (arith, low), omega (arith, high))

pub range_listed : (a n k : ℕ) → a ≤ k → k < a + n → Contains (range_with_len a n) k
range_listed a zero k low high = absurd (omega (arith, low, high))
range_listed a (suc n) k low high = go (cases_eq a k) (range_listed (a + 1) n k)
  where
    go : (a ≡ k) ⊎ (a ≡ k → ⊥) → (a + 1 ≤ k → k < a + 1 + n → Contains (range_with_len (a + 1) n) k) → Contains (a ∷ range_with_len (a + 1) n) k
    go (inl e) rest = subst (Contains (a ∷ range_with_len (a + 1) n)) e (Contains-here a (range_with_len (a + 1) n))
    go (inr e) rest = Contains-later a k (range_with_len (a + 1) n) (rest (omega (arith, low, e)) (omega (arith, high)))

pub range_once : (a n : ℕ) → HasNoRepeat (range_with_len a n)
range_once a zero = tt
range_once a (suc n) = ((λ h. let r = range_place (a + 1) n a h in let low = r.0 in omega (arith, low)), range_once (a + 1) n)

pub range-append : (a m n : ℕ) → range_with_len a (m + n) ≡ range_with_len a m ++ range_with_len (a + m) n
range-append a zero n = ap (range_with_len a) (let z : 0 + n ≡ n = omega arith in z) ∙ ap (λ k. range_with_len k n) (let z : a ≡ a + 0 = omega arith in z)
range-append a (suc m) n =
    ap (range_with_len a) (let e : suc m + n ≡ suc (m + n) = omega arith in e)
    ∙ ap (λ ks. a ∷ ks) (range-append (a + 1) m n ∙ ap (λ k. range_with_len (a + 1) m ++ range_with_len k n) (let e : a + 1 + m ≡ a + suc m = omega arith in e))
