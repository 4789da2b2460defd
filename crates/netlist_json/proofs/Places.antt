-- Numbers in order, and the place of one of them.
use Rattle.std.proofs.Common.{◌≡◌, ◌≢◌, ◌<◌, ◌≤◌, ℕ, zero, suc, List, [], ◌∷◌, length, get_or, refl, arith, inl, inr}
use Rattle.std.proofs.Math.Nat.{le_refl}
use Rattle.std.proofs.lemmas.Bool.{cases_lt}
use Rattle.std.proofs.lemmas.Bool.{eq-eqb, ne_eqb}
use Rattle.std.proofs.lemmas.Map.Keys.{below_from_sorted, non_decreasing_from_sorted}
use Rattle.std.specs.List.Sorted.{IsStrictlySortedBy}
use Rattle.std.specs.Ordering.{nat_cmp}
use Rattle.netlist_json.specs.Flats.{place_of}

-- a number stands at one place alone
pub differs_before : (xs : List ℕ) → IsStrictlySortedBy nat_cmp xs → (x i : ℕ) → i < length xs → get_or xs i 0 ≡ x → (k : ℕ) → k < i → get_or xs k 0 ≢ x
differs_before xs sorted x i within here k before same =
    let less = below_from_sorted xs k i 0 sorted before within in omega (arith, less, here, same)

pub not_below : (xs : List ℕ) → IsStrictlySortedBy nat_cmp xs → (i j : ℕ) → i ≤ j → j < length xs → get_or xs i 0 ≤ get_or xs j 0
not_below xs sorted i j = non_decreasing_from_sorted xs sorted i j 0

-- the place at which a number stands first, or the length
pub place_at : (xs : List ℕ) (x i : ℕ) → i ≤ length xs → ((k : ℕ) → k < i → get_or xs k 0 ≢ x) → (i < length xs → get_or xs i 0 ≡ x) → place_of xs x ≡ i
place_at [] x zero within before here = refl
place_at [] x (suc i) within before here = absurd (omega arith)
place_at (n ∷ ns) x zero within before here = let e : n ≡ x = here (omega arith) in rw (eq-eqb n x e) refl
place_at (n ∷ ns) x (suc i) within before here =
    let other : n ≢ x = before 0 (omega arith) in
    let rest = place_at ns x i (omega arith) (λ k h. before (suc k) (omega arith)) (λ h. here (omega arith)) in
    rw (ne_eqb n x other) (omega (arith, rest))

-- a number between two neighbours stands nowhere
pub place_of_missing : (xs : List ℕ) (x i : ℕ) → ((k : ℕ) → k < i → get_or xs k 0 < x) → ((k : ℕ) → i ≤ k → k < length xs → x < get_or xs k 0) → place_of xs x ≡ length xs
place_of_missing xs x i low high =
    place_at xs x (length xs) (le_refl (length xs))
    (λ k within same. elim (cases_lt k i) [
      | inl below ↦ let less = low k below in omega (arith, less, same)
      | inr above ↦ let less = high k above within in omega (arith, less, same)
    ])
    (λ within. absurd (omega arith))
