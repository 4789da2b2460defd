-- Tests over numbers in a row.
use Rattle.std.proofs.Common.{◌≡◌, ℕ, zero, suc, ◌+◌, ◌<◌, ◌≤◌, Bool, true, false, ◌||◌, ◌-◌, List, length, get_or, reverse, refl, sym, ◌∙◌, subst, inl, inr, arith}
use Rattle.std.proofs.lemmas.Bool.{cases_lt}
use Rattle.std.proofs.lemmas.List.{get_or-reverse, length-reverse, get_or_default}
use Rattle.std.proofs.lemmas.List.FromFn.{length-range_with_len, get_or-range_with_len}
use Rattle.std.specs.List.{list_any, range_with_len}

or_true : (a : Bool) → (a || true) ≡ true
or_true true = refl
or_true false = refl

pub any_yes : (p : ℕ → Bool) (a n k : ℕ) → a ≤ k → k < a + n → p k ≡ true → list_any p (range_with_len a n) ≡ true
any_yes p a zero k le lt h = absurd (omega arith)
any_yes p a (suc n) k le lt h =
    elim (cases_lt a k) [
      | inl less ↦
          let rest : list_any p (range_with_len (a + 1) n) ≡ true = any_yes p (a + 1) n k (omega arith) (omega arith) h in
          rw rest (or_true (p a))
      | inr same ↦
          let e : p a ≡ true = subst (λ j. p j ≡ true) (omega arith) h in
          rw e refl
    ]

pub any_no : (p : ℕ → Bool) (a n : ℕ) → ((k : ℕ) → a ≤ k → k < a + n → p k ≡ false) → list_any p (range_with_len a n) ≡ false
any_no p a zero h = refl
any_no p a (suc n) h =
    let e : p a ≡ false = h a (omega arith) (omega arith) in
    let rest : list_any p (range_with_len (a + 1) n) ≡ false = any_no p (a + 1) n (λ k le lt. h k (omega arith) (omega arith)) in
    rw (e, rest) refl

-- what holds below a number and at it holds below the next
pub one_more : (P : ℕ → Type 0) (n : ℕ) → ((k : ℕ) → k < n → P k) → P n → (k : ℕ) → k < n + 1 → P k
one_more P n h last k lt =
    elim (cases_lt k n) [
      | inl less ↦ h k less
      | inr same ↦ (let e : n ≡ k = omega arith in subst P e last)
    ]

pub one_more_from : (P : ℕ → Type 0) (a n : ℕ) → ((k : ℕ) → a ≤ k → k < a + n → P k) → P (a + n) → (k : ℕ) → a ≤ k → k < a + (n + 1) → P k
one_more_from P a n h last k le lt =
    elim (cases_lt k (a + n)) [
      | inl less ↦ h k le less
      | inr same ↦ (let e : a + n ≡ k = omega arith in subst P e last)
    ]

-- the numbers below one, forwards and backwards
pub range_item : (n i : ℕ) → i < n → i ≡ get_or (range_with_len 0 n) i i
range_item n i lt =
    let e : get_or (range_with_len 0 n) i i ≡ 0 + i = get_or-range_with_len 0 n i i lt in
    omega arith

pub length-backwards : (n : ℕ) → length (reverse (range_with_len 0 n)) ≡ n
length-backwards n = length-reverse (range_with_len 0 n) ∙ length-range_with_len 0 n

pub back_item : (n i : ℕ) → i < n → n - 1 - i ≡ get_or (reverse (range_with_len 0 n)) i (n - 1 - i)
back_item n i lt =
    let xs = range_with_len 0 n in
    let len : length xs ≡ n = length-range_with_len 0 n in
    let e : get_or (reverse xs) i (n - 1 - i) ≡ get_or xs (length xs - 1 - i) (n - 1 - i) = get_or-reverse xs i (n - 1 - i) (omega arith) in
    let k : get_or xs (length xs - 1 - i) (n - 1 - i) ≡ 0 + (length xs - 1 - i) = get_or-range_with_len 0 n (length xs - 1 - i) (n - 1 - i) (omega arith) in
    sym (e ∙ (k ∙ omega arith))

-- a list backwards
pub reversed_item : (xs : List ℕ) (i d : ℕ) → i < length xs → get_or xs (length xs - 1 - i) d ≡ get_or (reverse xs) i (get_or xs (length xs - 1 - i) d)
reversed_item xs i d lt =
    let x = get_or xs (length xs - 1 - i) d in
    get_or_default xs (length xs - 1 - i) d x (omega arith) ∙ sym (get_or-reverse xs i x lt)
