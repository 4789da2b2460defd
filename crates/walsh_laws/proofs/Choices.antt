-- Choices that pass tests: by two tests, one or none of them, and against signs.
use Rattle.std.proofs.Common.{◌≡◌, ℕ, zero, suc, ◌+◌, ◌⊎◌, inl, inr, Bool, true, false, cond, not, ◌&&◌, [], ◌∷◌, length, refl, ap, arith, pos, ◌+ℤ◌}
use Rattle.std.proofs.lemmas.Int.{ints}
use Rattle.coco_model.specs.Cells.{signed}
use Rattle.coco_model.specs.Labels.{Choice}
use Rattle.coco_model.proofs.Choices.{count}
use Rattle.walsh_laws.proofs.Totals.{total}

-- those that pass p are those that pass q too and those that do not
pub count_split : (n : ℕ) (p q : Choice → Bool) → count n p ≡ count n (λ c. p c && q c) + count n (λ c. p c && not (q c))
count_split zero p q = go (p []) (q [])
  where
    go : (a b : Bool) → cond a 1 0 ≡ cond (a && b) 1 0 + cond (a && not b) 1 0
    go true true = refl
    go true false = refl
    go false b = refl
count_split (suc n) p q =
    let a = count_split n (λ c. p (false ∷ c)) (λ c. q (false ∷ c)) in
    let b = count_split n (λ c. p (true ∷ c)) (λ c. q (true ∷ c)) in
    omega arith

pub count_none : (n : ℕ) (p : Choice → Bool) → ((c : Choice) → length c ≡ n → p c ≡ false) → count n p ≡ 0
count_none zero p e = rw (e [] refl) refl
count_none (suc n) p e =
    let a = count_none n (λ c. p (false ∷ c)) (λ c h. e (false ∷ c) (ap suc h)) in
    let b = count_none n (λ c. p (true ∷ c)) (λ c h. e (true ∷ c) (ap suc h)) in
    omega arith

-- a choice that passes a test, or none
pub record IsPassing (n : ℕ) (p : Choice → Bool) : Type 0 where
  pub choice : Choice
  pub as_long : length choice ≡ n
  pub passes : p choice ≡ true

pub passing_or_none : (n : ℕ) (p : Choice → Bool) → IsPassing n p ⊎ ((c : Choice) → length c ≡ n → p c ≡ false)
passing_or_none zero p = go (p []) refl
  where
    go : (b : Bool) → p [] ≡ b → IsPassing zero p ⊎ ((c : Choice) → length c ≡ zero → p c ≡ false)
    go true e = inl (record { choice = []; as_long = refl; passes = e })
    go false e = inr all
      where
        all : (c : Choice) → length c ≡ zero → p c ≡ false
        all [] h = e
        all (b ∷ c) h = absurd (omega arith)
passing_or_none (suc n) p = go (passing_or_none n (λ c. p (false ∷ c))) (passing_or_none n (λ c. p (true ∷ c)))
  where
    go : IsPassing n (λ c. p (false ∷ c)) ⊎ ((c : Choice) → length c ≡ n → p (false ∷ c) ≡ false)
        → IsPassing n (λ c. p (true ∷ c)) ⊎ ((c : Choice) → length c ≡ n → p (true ∷ c) ≡ false)
        → IsPassing (suc n) p ⊎ ((c : Choice) → length c ≡ suc n → p c ≡ false)
    go (inl f) other = inl (record { choice = false ∷ f.choice; as_long = ap suc f.as_long; passes = f.passes })
    go (inr n0) (inl f) = inl (record { choice = true ∷ f.choice; as_long = ap suc f.as_long; passes = f.passes })
    go (inr n0) (inr n1) = inr all
      where
        all : (c : Choice) → length c ≡ suc n → p c ≡ false
        all [] h = absurd (omega arith)
        all (false ∷ c) h = n0 c (omega arith)
        all (true ∷ c) h = n1 c (omega arith)

-- the sum of signs is the number of choices that fail the test without those that pass it
pub total-count : (n : ℕ) (q : Choice → Bool) → total n (λ c. signed (q c) (pos 1)) +ℤ pos (count n q) ≡ pos (count n (λ c. not (q c)))
total-count zero q = go (q [])
  where
    go : (b : Bool) → signed b (pos 1) +ℤ pos (cond b 1 0) ≡ pos (cond (not b) 1 0)
    go true = omega (arith, ints)
    go false = omega (arith, ints)
total-count (suc n) q =
    let a = total-count n (λ c. q (false ∷ c)) in
    let b = total-count n (λ c. q (true ∷ c)) in
    omega (arith, ints)
