-- Bits that were sorted by their levels, from the order of their numbers.
use Rattle.std.proofs.Common.{◌≡◌, ◌≢◌, ℕ, zero, suc, ◌+◌, ◌-◌, ◌<◌, ◌≤◌, ◌⊎◌, inl, inr, Bool, true, false, cond, nat_eq, nat_lt, List, [], ◌∷◌, length, get_or, set, refl, sym, ◌∙◌, ap, subst, arith}
use Rattle.std.specs.Prelude.{Contains, count_by}
use Rattle.std.specs.List.Sorted.{IsPermutation, IsNonDecreasingBy, IsSortedByKey}
use Rattle.std.specs.Ordering.{nat_cmp, is_lt}
use Rattle.std.specs.declared.cmp.Ordering.TheVariants.{Less, Equal, Greater}
use Rattle.std.proofs.lemmas.Bool.{cases_Bool, cases_eq, cases_order, eq-eqb, eqb-true, ltb-true}
use Rattle.std.proofs.lemmas.List.{get_or_default, get_or-set_same, get_or-set_other, length-set}
use Rattle.std.proofs.lemmas.List.Elements.{Contains-get_or}
use Rattle.std.proofs.lemmas.List.Sorted.{length_permutation, Contains-permutation, IsPermutation-sym, sum_by-IsPermutation}
use Rattle.std.proofs.lemmas.List.Sums.{sum_by-cons}
use Rattle.gate_graph.specs.Ranks.{GoesBefore}
use Rattle.gate_graph.specs.Standings.{IsArrangement, AreByRank, ArePlaces}
use Rattle.gate_graph.proofs.TableLemmas.{cond_same, cond_other}

-- how often a number stands in a list
abbrev count_of : ℕ → List ℕ → ℕ
count_of b xs = count_by (λ x. nat_eq x b) xs

count_more : (b x : ℕ) (xs : List ℕ) → count_of b (x ∷ xs) ≡ cond (nat_eq x b) 1 0 + count_of b xs
count_more b x xs = sum_by-cons (λ y. cond (nat_eq y b) 1 0) x xs

count_yes : (b x : ℕ) (xs : List ℕ) → x ≡ b → count_of b (x ∷ xs) ≡ suc (count_of b xs)
count_yes b x xs e =
    let one : 1 + count_of b xs ≡ suc (count_of b xs) = omega arith in
    count_more b x xs ∙ ap (λ n. n + count_of b xs) (cond_same {X = ℕ} x b 1 0 e) ∙ one

count_no : (b x : ℕ) (xs : List ℕ) → x ≢ b → count_of b (x ∷ xs) ≡ count_of b xs
count_no b x xs n =
    let none : 0 + count_of b xs ≡ count_of b xs = omega arith in
    count_more b x xs ∙ ap (λ n. n + count_of b xs) (cond_other {X = ℕ} x b 1 0 n) ∙ none

count_none : (b : ℕ) (xs : List ℕ) → ((k : ℕ) → k < length xs → get_or xs k 0 ≢ b) → count_of b xs ≡ 0
count_none b [] none = refl
count_none b (x ∷ xs) none =
    count_no b x xs (none 0 (omega arith)) ∙ count_none b xs (λ k h. none (suc k) (omega arith))

count_once : (b : ℕ) (xs : List ℕ) → ((j k : ℕ) → j < k → k < length xs → get_or xs j 0 ≢ get_or xs k 0) → count_of b xs ≤ 1
count_once b [] once = omega arith
count_once b (x ∷ xs) once = go (cases_eq x b) (count_once b xs (λ j k lt h. once (suc j) (suc k) (omega arith) (omega arith)))
  where
    go : (x ≡ b) ⊎ (x ≢ b) → count_of b xs ≤ 1 → count_of b (x ∷ xs) ≤ 1
    go (inl e) rest =
        let none = count_none b xs (λ k h same. once 0 (suc k) (omega arith) (omega arith) (e ∙ sym same)) in
        let c = count_yes b x xs e in omega arith
    go (inr n) rest = let c = count_no b x xs n in omega arith

count_some : (b : ℕ) (xs : List ℕ) (k : ℕ) → k < length xs → get_or xs k 0 ≡ b → 1 ≤ count_of b xs
count_some b [] k h e = absurd (omega arith)
count_some b (x ∷ xs) zero h e = let c = count_yes b x xs e in omega arith
count_some b (x ∷ xs) (suc k) h e = go (cases_eq x b) (count_some b xs k (omega arith) e)
  where
    go : (x ≡ b) ⊎ (x ≢ b) → 1 ≤ count_of b xs → 1 ≤ count_of b (x ∷ xs)
    go (inl is) rest = let c = count_yes b x xs is in omega arith
    go (inr n) rest = let c = count_no b x xs n in omega arith

count_twice : (b : ℕ) (xs : List ℕ) (j k : ℕ) → j < k → k < length xs → get_or xs j 0 ≡ b → get_or xs k 0 ≡ b → 2 ≤ count_of b xs
count_twice b [] j k lt h at_j at_k = absurd (omega arith)
count_twice b (x ∷ xs) j zero lt h at_j at_k = absurd (omega arith)
count_twice b (x ∷ xs) zero (suc k) lt h at_j at_k =
    let c = count_yes b x xs at_j in let s = count_some b xs k (omega arith) at_k in omega arith
count_twice b (x ∷ xs) (suc j) (suc k) lt h at_j at_k = go (cases_eq x b) (count_twice b xs j k (omega arith) (omega arith) at_j at_k)
  where
    go : (x ≡ b) ⊎ (x ≢ b) → 2 ≤ count_of b xs → 2 ≤ count_of b (x ∷ xs)
    go (inl is) rest = let c = count_yes b x xs is in omega arith
    go (inr n) rest = let c = count_no b x xs n in omega arith

-- what stands at a place of a list that has a member
abbrev At : List ℕ → ℕ → Type 0
At xs x = (k : ℕ) × (k < length xs) × (get_or xs k 0 ≡ x)

at_from_Contains : (xs : List ℕ) (x : ℕ) → Contains xs x → At xs x
at_from_Contains xs x (k, below, is) = (k, below, get_or_default xs k 0 x below ∙ is)

-- another order of the numbers below the length is an arrangement
arranged : (initial bits : List ℕ) → ((k : ℕ) → k < length initial → get_or initial k 0 ≡ k) → IsPermutation initial bits → IsArrangement bits
arranged initial bits counts moved = record {
  below = λ k h.
      let p = at_from_Contains initial (get_or bits k 0) (Contains-permutation bits initial (get_or bits k 0) (IsPermutation-sym initial bits moved) (Contains-get_or bits k 0 h)) in
      let below : p.0 < length initial = p.1 in
      let is : p.0 ≡ get_or bits k 0 = sym (counts p.0 p.1) ∙ p.2 in
      let l = long in omega arith;
  once = λ j k lt h same.
      let two = count_twice (get_or bits k 0) bits j k lt h same refl in
      let one = count_once (get_or bits k 0) initial (λ a b less inside e. let x = counts a (omega arith) in let y = counts b inside in omega arith) in
      let equal : count_of (get_or bits k 0) bits ≡ count_of (get_or bits k 0) initial =
      sum_by-IsPermutation (λ x. cond (nat_eq x (get_or bits k 0)) 1 0) initial bits moved in
      omega arith;
  every = λ b h.
      at_from_Contains bits b (Contains-permutation initial bits b moved
      (subst (Contains initial) (counts b (let l = long in omega arith)) (Contains-get_or initial b 0 (let l = long in omega arith))));
}
  where
    long : length bits ≡ length initial
    long = length_permutation initial bits moved

-- bits of one level stand by number
tie_chain : (level : ℕ → ℕ) (bits : List ℕ) → IsNonDecreasingBy level bits
    → ((k d : ℕ) → k + 1 < length bits → level (get_or bits k d) ≡ level (get_or bits (k + 1) d) → get_or bits k d ≤ get_or bits (k + 1) d)
    → (j n : ℕ) → j + n < length bits → level (get_or bits j 0) ≡ level (get_or bits (j + n) 0) → get_or bits j 0 ≤ get_or bits (j + n) 0
tie_chain level bits rises ties j zero h e = let z : j + 0 ≡ j = omega arith in let s = ap (λ n. get_or bits n 0) z in omega arith
tie_chain level bits rises ties j (suc n) h e =
    let next : j + suc n ≡ (j + n) + 1 = omega arith in
    let at_next = ap (λ m. get_or bits m 0) next in
    let level_next = ap (λ m. level (get_or bits m 0)) next in
    let first = rises j (j + n) 0 (omega arith) (omega arith) in
    let second = rises (j + n) ((j + n) + 1) 0 (omega arith) (omega arith) in
    let same : level (get_or bits j 0) ≡ level (get_or bits (j + n) 0) = omega arith in
    let before = tie_chain level bits rises ties j n (omega arith) same in
    let last = ties (j + n) 0 (omega arith) (omega arith) in
    omega arith

pub sorted_bits : (levels initial bits : List ℕ) → length initial ≡ length levels → ((k : ℕ) → k < length initial → get_or initial k 0 ≡ k)
    → IsPermutation initial bits → IsNonDecreasingBy (λ b. get_or levels b 0) bits
    → ((k d : ℕ) → k + 1 < length bits → get_or levels (get_or bits k d) 0 ≡ get_or levels (get_or bits (k + 1) d) 0 → get_or bits k d ≤ get_or bits (k + 1) d)
    → AreByRank levels bits
sorted_bits levels initial bits long counts moved rises ties = record {
  as_long = length_permutation initial bits moved ∙ long;
  arranged = all;
  ordered = λ j k lt h. ordered j k lt h (cases_order (get_or levels (get_or bits j 0) 0) (get_or levels (get_or bits k 0) 0));
}
  where
    all : IsArrangement bits
    all = arranged initial bits counts moved

    level : ℕ → ℕ
    level b = get_or levels b 0

    ordered : (j k : ℕ) → j < k → k < length bits
        → (level (get_or bits j 0) ≡ level (get_or bits k 0)) ⊎ ((level (get_or bits j 0) < level (get_or bits k 0)) ⊎ (level (get_or bits k 0) < level (get_or bits j 0)))
        → GoesBefore (λ b. get_or levels b 0) (get_or bits j 0) (get_or bits k 0)
    ordered j k lt h (inr (inl less)) = inl less
    ordered j k lt h (inr (inr more)) = absurd (let r = rises j k 0 (omega arith) h in omega arith)
    ordered j k lt h (inl e) =
        let far : j + (k - j) ≡ k = omega arith in
        let at_far = ap (λ n. get_or bits n 0) far in
        let level_far = ap (λ n. level (get_or bits n 0)) far in
        let le = tie_chain level bits rises ties j (k - j) (omega arith) (e ∙ sym level_far) in
        let ne = all.once j k lt h in
        inr (e, omega arith)

not_lt : (a b : ℕ) → b ≤ a → is_lt (nat_cmp a b) ≡ false
not_lt a b h = go (cases_Bool (nat_lt a b))
  where
    other : (t : Bool) → is_lt (cond t Equal Greater) ≡ false
    other true = refl
    other false = refl

    go : (nat_lt a b ≡ true) ⊎ (nat_lt a b ≡ false) → is_lt (nat_cmp a b) ≡ false
    go (inl e) = absurd (let l = ltb-true a b e in omega arith)
    go (inr e) = ap (λ t. is_lt (cond t Less (cond (nat_eq a b) Equal Greater))) e ∙ other (nat_eq a b)

pub counted_sorted : (initial : List ℕ) → ((k : ℕ) → k < length initial → get_or initial k 0 ≡ k) → IsSortedByKey (λ (x : ℕ). x) nat_cmp initial
counted_sorted initial counts k d low h =
    not_lt (get_or initial (k + 1) d) (get_or initial k d)
    (let x = get_or_default initial k d 0 (omega arith) in
    let y = get_or_default initial (k + 1) d 0 h in
    let z = counts k (omega arith) in
    let w = counts (k + 1) h in omega arith)

-- the place of one more number
pub places_more : (bits ranks : List ℕ) (place : ℕ) → IsArrangement bits → length ranks ≡ length bits → place < length bits
    → ((k : ℕ) → k < place → get_or ranks (get_or bits k 0) 0 ≡ k) → (k : ℕ) → k < place + 1
    → get_or (set ranks (get_or bits place 0) place) (get_or bits k 0) 0 ≡ k
places_more bits ranks place a long h old k lt = go (cases_order k place)
  where
    go : (k ≡ place) ⊎ ((k < place) ⊎ (place < k)) → get_or (set ranks (get_or bits place 0) place) (get_or bits k 0) 0 ≡ k
    go (inl e) =
        ap (λ n. get_or (set ranks (get_or bits place 0) place) (get_or bits n 0) 0) e
        ∙ get_or-set_same ranks (get_or bits place 0) place 0 (let b = a.below place h in omega arith) ∙ sym e
    go (inr (inl below)) = get_or-set_other ranks (get_or bits place 0) (get_or bits k 0) place 0 (a.once k place below h) ∙ old k below
    go (inr (inr above)) = absurd (omega arith)
