-- The place of a label among those with variables.
use Rattle.std.proofs.Common.{◌≡◌, ◌≢◌, ◌<◌, ◌≤◌, ℕ, zero, suc, true, false, List, [], ◌∷◌, length, get_or, Some, None, refl, ap, sym, arith, inl, inr}
use Rattle.std.specs.List.Sorted.{IsStrictlyIncreasing}
use Rattle.std.proofs.lemmas.Bool.{eq-eqb, ne_eqb, cases_lt}
use Rattle.std.proofs.lemmas.Map.Keys.{sorted_from_strictly_increasing}
use Rattle.std.proofs.lemmas.Map.Keys.{below_from_sorted, non_decreasing_from_sorted}
use Rattle.coco_model.specs.Goals.{is_among, variable_of}
use Rattle.node_clauses.specs.Sums.{place_of}

record IsFirst (xs : List ℕ) (x i : ℕ) : Type 0 where
  pub among : is_among xs x ≡ true
  pub variable : variable_of xs x ≡ i

first_at : (xs : List ℕ) (x i : ℕ) → i < length xs → ((k : ℕ) → k < i → get_or xs k 0 ≢ x) → get_or xs i 0 ≡ x → IsFirst xs x i
first_at [] x i within before here = absurd (omega arith)
first_at (n ∷ ns) x zero within before here =
    let e : n ≡ x = here in
    rw e (record { among = rw (eq-eqb x x refl) refl; variable = rw (eq-eqb x x refl) refl })
first_at (n ∷ ns) x (suc i) within before here =
    let other : n ≢ x = before 0 (omega arith) in
    let back : x ≢ n = (λ e. other (sym e)) in
    let rest = first_at ns x i (omega arith) (λ k h. before (suc k) (omega arith)) here in
    record { among = rw (ne_eqb x n back) rest.among; variable = rw (ne_eqb n x other) (ap suc rest.variable) }

not_among : (xs : List ℕ) (x : ℕ) → ((k : ℕ) → k < length xs → get_or xs k 0 ≢ x) → is_among xs x ≡ false
not_among [] x apart = refl
not_among (n ∷ ns) x apart =
    let other : n ≢ x = apart 0 (omega arith) in
    let back : x ≢ n = (λ e. other (sym e)) in
    rw (ne_eqb x n back) (not_among ns x (λ k h. apart (suc k) (omega arith)))

pub never_falls : (xs : List ℕ) → IsStrictlyIncreasing xs → (i j : ℕ) → i ≤ j → j < length xs → get_or xs i 0 ≤ get_or xs j 0
never_falls xs up i j = non_decreasing_from_sorted xs (sorted_from_strictly_increasing xs up) i j 0

-- where a search finds a label
pub found_place : (xs : List ℕ) → IsStrictlyIncreasing xs → (x i : ℕ) → i < length xs → get_or xs i 0 ≡ x → place_of xs x ≡ Some i
found_place xs up x i within here =
    let first = first_at xs x i within
    (λ k before same. let less = below_from_sorted xs k i 0 (sorted_from_strictly_increasing xs up) before within in omega (arith, less, here, same)) here in
    rw first.among (ap Some first.variable)

-- where it finds none
pub missing_place : (xs : List ℕ) (x i : ℕ) → ((k : ℕ) → k < i → get_or xs k 0 < x) → ((k : ℕ) → i ≤ k → k < length xs → x < get_or xs k 0) → place_of xs x ≡ None
missing_place xs x i low high =
    let none = not_among xs x (λ k within same. elim (cases_lt k i) [
      | inl below ↦ let less = low k below in omega (arith, less, same)
      | inr above ↦ let less = high k above within in omega (arith, less, same)
    ]) in
    rw none refl
