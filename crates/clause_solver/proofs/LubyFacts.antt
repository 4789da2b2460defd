-- The Luby sequence, from a power of 2 down to the next.
use Rattle.std.proofs.Common.{◌≡◌, ℕ, suc, zero, ◌+◌, ◌-◌, ◌*◌, ◌/◌, ◌<◌, ◌≤◌, ◌^◌, true, false, eqb, ltb, refl, sym, ap, ◌∙◌, inl, inr, arith}
use Rattle.std.proofs.lemmas.Grind.{common_steps}
use Rattle.std.proofs.lemmas.Bool.{cases_eq, cases_lt}
use Rattle.clause_solver.specs.Restarts.{luby_below, luby_of}

pub test_true : (a b : ℕ) → a ≡ b → eqb a b ≡ true
test_true a b e = grind (arith, common_steps)

pub test_false : (a b : ℕ) → (a ≡ b → ⊥) → eqb a b ≡ false
test_false a b e = grind (arith, common_steps)

pub less_true : (a b : ℕ) → a < b → ltb a b ≡ true
less_true a b e = grind (arith, common_steps)

pub less_false : (a b : ℕ) → b ≤ a → ltb a b ≡ false
less_false a b e = grind (arith, common_steps)

power_positive : (k : ℕ) → 0 < 2 ^ k
power_positive zero = omega arith
power_positive (suc k) = let h : 0 < 2 ^ k = power_positive k in let e : 2 ^ suc k ≡ 2 * 2 ^ k = omega arith in omega arith

-- the three ways down from a power to the next
pub luby_top : (k i : ℕ) → i ≡ 2 ^ suc k - 1 → luby_below (suc k) i ≡ 2 ^ k
unfolding luby_below
luby_top k i e = rw (test_true i (2 ^ suc k - 1) e) refl

pub luby_low : (k i : ℕ) → (i ≡ 2 ^ suc k - 1 → ⊥) → i < 2 ^ k → luby_below (suc k) i ≡ luby_below k i
unfolding luby_below
luby_low k i ne lt = rw (test_false i (2 ^ suc k - 1) ne, less_true i (2 ^ k) lt) refl

pub luby_high : (k i : ℕ) → (i ≡ 2 ^ suc k - 1 → ⊥) → 2 ^ k ≤ i → luby_below (suc k) i ≡ luby_below k (i - 2 ^ k + 1)
unfolding luby_below
luby_high k i ne le = rw (test_false i (2 ^ suc k - 1) ne, less_false i (2 ^ k) le) refl

luby_last : (i : ℕ) → 0 < luby_below 0 i
unfolding luby_below
luby_last i = omega arith

luby_positive : (k i : ℕ) → 0 < luby_below k i
luby_positive zero i = luby_last i
luby_positive (suc k) i =
    elim (cases_eq i (2 ^ suc k - 1)) [
      | inl top ↦ let e : luby_below (suc k) i ≡ 2 ^ k = luby_top k i top in let p : 0 < 2 ^ k = power_positive k in omega arith
      | inr ne ↦
          elim (cases_lt i (2 ^ k)) [
            | inl low ↦ let e : luby_below (suc k) i ≡ luby_below k i = luby_low k i ne low in let p : 0 < luby_below k i = luby_positive k i in omega arith
            | inr high ↦ let e : luby_below (suc k) i ≡ luby_below k (i - 2 ^ k + 1) = luby_high k i ne high in let p : 0 < luby_below k (i - 2 ^ k + 1) = luby_positive k (i - 2 ^ k + 1) in omega arith
          ]
    ]

pub luby_of_positive : (i : ℕ) → 0 < luby_of i
luby_of_positive i = luby_positive i i

-- a greater power changes nothing
luby_more : (d k i : ℕ) → 0 < i → i < 2 ^ k → luby_below (d + k) i ≡ luby_below k i
luby_more zero k i pos lt = let e : zero + k ≡ k = omega arith in rw e refl
luby_more (suc d) k i pos lt =
    let e : suc d + k ≡ suc (d + k) = omega arith in
    let more : 2 ^ k ≤ 2 ^ (d + k) = power_more d k in
    let p : 2 ^ suc (d + k) ≡ 2 * 2 ^ (d + k) = omega arith in
    let low : luby_below (suc (d + k)) i ≡ luby_below (d + k) i = luby_low (d + k) i (λ top. absurd (omega arith)) (omega arith) in
    rw e (low ∙ luby_more d k i pos lt)
  where
    power_more : (d k : ℕ) → 2 ^ k ≤ 2 ^ (d + k)
    power_more zero k = let e : zero + k ≡ k = omega arith in rw e (omega arith)
    power_more (suc d) k =
        let e : suc d + k ≡ suc (d + k) = omega arith in
        let p : 2 ^ suc (d + k) ≡ 2 * 2 ^ (d + k) = omega arith in
        let h : 2 ^ k ≤ 2 ^ (d + k) = power_more d k in
        rw e (omega arith)

below_power : (i : ℕ) → i < 2 ^ i
below_power zero = omega arith
below_power (suc i) = let h : i < 2 ^ i = below_power i in let p : 2 ^ suc i ≡ 2 * 2 ^ i = omega arith in omega arith

pub luby_by : (k i : ℕ) → 0 < i → i < 2 ^ k → luby_below k i ≡ luby_of i
luby_by k i pos lt =
    elim (cases_lt k i) [
      | inl less ↦
          let e : i - k + k ≡ i = omega arith in
          let h : luby_below (i - k + k) i ≡ luby_below k i = luby_more (i - k) k i pos lt in
          sym h ∙ ap (λ n. luby_below n i) e
      | inr ge ↦
          let e : k - i + i ≡ k = omega arith in
          let h : luby_below (k - i + i) i ≡ luby_below i i = luby_more (k - i) i i pos (below_power i) in
          ap (λ n. luby_below n i) (sym e) ∙ h
    ]

-- what is left to do to find a number of the sequence: it stands at this place below this power
pub record IsSought (place power i : ℕ) : Type 0 where
  pub exponent : ℕ
  pub is_power : power ≡ 2 ^ exponent
  pub few : power ≤ 2 ^ 31
  pub positive : 0 < i
  pub below : i < 2 ^ exponent
  pub same : luby_below exponent i ≡ luby_of place

pub sought_first : (place : ℕ) → 0 < place → place < 2 ^ 31 → IsSought place (2 ^ 31) place
sought_first place pos lt = record { exponent = 31; is_power = refl; few = omega arith; positive = pos; below = lt; same = luby_by 31 place pos lt }

pub sought_found : (place power i : ℕ) → IsSought place power i → 1 < power → i ≡ 2 * (power / 2) - 1 → power / 2 ≡ luby_of place
sought_found place power i s more top = by s.exponent s.is_power s.same
  where
    by : (k : ℕ) → power ≡ 2 ^ k → luby_below k i ≡ luby_of place → power / 2 ≡ luby_of place
    by zero e same = absurd (omega arith)
    by (suc k) e same =
        let p : 2 ^ suc k ≡ 2 * 2 ^ k = omega arith in
        let half : power / 2 ≡ 2 ^ k = omega arith in
        let h : luby_below (suc k) i ≡ 2 ^ k = luby_top k i (omega arith) in
        half ∙ sym h ∙ same

pub sought_low : (place power i : ℕ) → IsSought place power i → 1 < power → (i ≡ 2 * (power / 2) - 1 → ⊥) → i < power / 2 → IsSought place (power / 2) i
sought_low place power i s more ne lt = by s.exponent s.is_power s.same
  where
    by : (k : ℕ) → power ≡ 2 ^ k → luby_below k i ≡ luby_of place → IsSought place (power / 2) i
    by zero e same = absurd (omega arith)
    by (suc k) e same =
        let p : 2 ^ suc k ≡ 2 * 2 ^ k = omega arith in
        let half : power / 2 ≡ 2 ^ k = omega arith in
        let few : power ≤ 2 ^ 31 = s.few in
        let h : luby_below (suc k) i ≡ luby_below k i = luby_low k i (λ top. ne (omega arith)) (omega arith) in
        record { exponent = k; is_power = half; few = omega arith; positive = s.positive; below = omega arith; same = sym h ∙ same }

lesser : (i n : ℕ) → i < n → (i ≡ n - 1 → ⊥) → i < n - 1
lesser i n lt ne = elim (cases_eq i (n - 1)) [ inl e ↦ absurd (ne e) | inr other ↦ omega arith ]

pub sought_high : (place power i : ℕ) → IsSought place power i → 1 < power → (i ≡ 2 * (power / 2) - 1 → ⊥) → power / 2 ≤ i → IsSought place (power / 2) (i - (power / 2 - 1))
sought_high place power i s more ne le = by s.exponent s.is_power s.below s.same
  where
    by : (k : ℕ) → power ≡ 2 ^ k → i < 2 ^ k → luby_below k i ≡ luby_of place → IsSought place (power / 2) (i - (power / 2 - 1))
    by zero e below same = absurd (omega arith)
    by (suc k) e below same =
        let p : 2 ^ suc k ≡ 2 * 2 ^ k = omega arith in
        let half : power / 2 ≡ 2 ^ k = omega arith in
        let few : power ≤ 2 ^ 31 = s.few in
        let not_top : i ≡ 2 ^ suc k - 1 → ⊥ = λ top. ne (omega arith) in
        let not_most : (i < 2 ^ suc k - 1) = lesser i (2 ^ suc k) below not_top in
        let h : luby_below (suc k) i ≡ luby_below k (i - 2 ^ k + 1) = luby_high k i not_top (omega arith) in
        let next : i - 2 ^ k + 1 ≡ i - (power / 2 - 1) = omega arith in
        record { exponent = k; is_power = half; few = omega arith; positive = omega arith; below = omega arith; same = ap (luby_below k) (sym next) ∙ sym h ∙ same }

pub sought_none : (place power i : ℕ) → IsSought place power i → power ≤ 1 → ⊥
sought_none place power i s le = let e : power ≡ 2 ^ s.exponent = s.is_power in let lt : i < 2 ^ s.exponent = s.below in let pos : 0 < i = s.positive in omega arith
