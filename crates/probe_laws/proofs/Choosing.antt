-- What a choice of probes says of activities and groups, and how many groups it has.
use Rattle.std.proofs.Common.{◌≡◌, ℕ, zero, suc, ◌+◌, ◌<◌, ◌≤◌, ◌&&◌, nat_le, nat_lt, Bool, true, false, cond, List, [], ◌∷◌, get_or, refl, sym, ◌∙◌, subst, arith, inl, inr}
use Rattle.std.specs.Prelude.{sum_by, count_by}
use Rattle.std.specs.List.{list_any, range_with_len}
use Rattle.std.proofs.lemmas.Bool.{or_cases, and_parts, and_from, le-leb, leb-true}
use Rattle.std.proofs.lemmas.List.Sums.{sum_by-cons, sum_by-le-sum_by, get_or-le-sum_by}
use Rattle.std.proofs.lemmas.List.FromFn.{length-range_with_len, get_or-range_with_len}
use Rattle.probe_clauses.specs.Probings.{Probing, all_bits, all_cycles, is_moving}
use Rattle.probe_clauses.proofs.Ranges.{any_yes}
use Rattle.probe_laws.specs.Showing.{Choice, LastsIn, count_chosen}

-- ---- tests over the numbers below one

pub record IsFound (p : ℕ → Bool) (n : ℕ) : Type 0 where
  pub at : ℕ
  pub within : at < n
  pub holds : p at ≡ true

found_from : (p : ℕ → Bool) (a n : ℕ) → list_any p (range_with_len a n) ≡ true → IsFound p (a + n)
found_from p a zero e = absurd (cc)
found_from p a (suc n) e = elim (or_cases (p a) (list_any p (range_with_len (a + 1) n)) e) [
  | inl here ↦ record { at = a; within = omega arith; holds = here }
  | inr later ↦ (let f = found_from p (a + 1) n later in let lt = f.within in record { at = f.at; within = omega arith; holds = f.holds })
]

pub found : (p : ℕ → Bool) (n : ℕ) → list_any p (range_with_len 0 n) ≡ true → IsFound p n
found p n e = (let f = found_from p 0 n e in let lt = f.within in record { at = f.at; within = omega arith; holds = f.holds })

pub find : (p : ℕ → Bool) (n k : ℕ) → k < n → p k ≡ true → list_any p (range_with_len 0 n) ≡ true
find p n k lt e = any_yes p 0 n k (omega arith) (omega arith) e

-- ---- activities and groups

abbrev pub in_window : ℕ → ℕ → ℕ → Bool
in_window window t u = nat_le t u && nat_lt u (t + window)

abbrev pub lasts_at : ℕ → ℕ → Choice → ℕ → ℕ → ℕ → Bool
lasts_at cycles window probes b u t = probes t b && in_window window t u

-- a chosen probe of a bit lasts in a cycle
abbrev pub active_at : Probing → Choice → ℕ → ℕ → Bool
active_at run probes b u = list_any (lasts_at run.cycles run.window probes b u) (all_cycles run)

abbrev pub moving_at : Probing → Choice → ℕ → ℕ → Bool
moving_at run probes b u = run.moves u b && active_at run probes b u

-- and the bit is not calm in it
abbrev pub group_at : Probing → Choice → ℕ → Bool
group_at run probes b = is_moving run b && list_any (moving_at run probes b) (all_cycles run)

pub active_from : (run : Probing) (probes : Choice) (b u t : ℕ) → t < run.cycles → probes t b ≡ true → LastsIn run.window t u → active_at run probes b u ≡ true
active_from run probes b u t lt e lasts =
    find (lasts_at run.cycles run.window probes b u) run.cycles t lt
    (and_from (probes t b) (in_window run.window t u) e (and_from (nat_le t u) (nat_lt u (t + run.window)) (le-leb t u lasts.begun) (le-leb (suc u) (t + run.window) lasts.not_over)))

pub record IsActiveProbe (run : Probing) (probes : Choice) (b u : ℕ) : Type 0 where
  pub cycle : ℕ
  pub in_run : cycle < run.cycles
  pub chosen : probes cycle b ≡ true
  pub lasts : LastsIn run.window cycle u

pub active_to : (run : Probing) (probes : Choice) (b u : ℕ) → active_at run probes b u ≡ true → IsActiveProbe run probes b u
active_to run probes b u e =
    let f = found (lasts_at run.cycles run.window probes b u) run.cycles e in
    let both = and_parts (probes f.at b) (in_window run.window f.at u) f.holds in
    let window = and_parts (nat_le f.at u) (nat_lt u (f.at + run.window)) both.1 in
    record {
      cycle = f.at;
      in_run = f.within;
      chosen = both.0;
      lasts = record { begun = leb-true f.at u window.0; not_over = leb-true (suc u) (f.at + run.window) window.1 };
    }

-- ---- counting

sum_zero : {X : Type 0} (xs : List X) → sum_by (λ x. 0) xs ≤ 0
sum_zero [] = omega arith
sum_zero {X = X} (x ∷ xs) =
    let rest = sum_zero xs in
    let a = sum_by-cons (λ (y : X). 0) x xs in
    omega arith

sum_both : {X : Type 0} (f g : X → ℕ) (xs : List X) → sum_by (λ x. f x + g x) xs ≡ sum_by f xs + sum_by g xs
sum_both f g [] = refl
sum_both f g (x ∷ xs) =
    let rest = sum_both f g xs in
    let a = sum_by-cons f x xs in
    let b = sum_by-cons g x xs in
    let c = sum_by-cons (λ y. f y + g y) x xs in
    omega arith

pub sum_cong : {X : Type 0} (f g : X → ℕ) (xs : List X) → ((x : X) → f x ≡ g x) → sum_by f xs ≡ sum_by g xs
sum_cong f g [] e = refl
sum_cong f g (x ∷ xs) e =
    let rest = sum_cong f g xs e in
    let here = e x in
    let a = sum_by-cons f x xs in
    let b = sum_by-cons g x xs in
    omega arith

exchange : (h : ℕ → ℕ → ℕ) (ts bs : List ℕ) → sum_by (λ b. sum_by (λ t. h t b) ts) bs ≡ sum_by (λ t. sum_by (λ b. h t b) bs) ts
exchange h [] bs = (let z = sum_zero bs in omega arith)
exchange h (t ∷ ts) bs =
    let rest = exchange h ts bs in
    let split = sum_both (λ b. h t b) (λ b. sum_by (λ u. h u b) ts) bs in
    let top = sum_by-cons (λ u. sum_by (λ b. h u b) bs) t ts in
    let open_up = sum_cong (λ b. sum_by (λ u. h u b) (t ∷ ts)) (λ b. h t b + sum_by (λ u. h u b) ts) bs (λ b. sum_by-cons (λ u. h u b) t ts) in
    open_up ∙ (split ∙ omega arith)

part_of_sum : (f : ℕ → ℕ) (n k : ℕ) → k < n → f k ≤ sum_by f (range_with_len 0 n)
part_of_sum f n k lt =
    let long = length-range_with_len 0 n in
    let item : get_or (range_with_len 0 n) k 0 ≡ k = get_or-range_with_len 0 n k 0 lt ∙ omega arith in
    subst (λ j. f j ≤ sum_by f (range_with_len 0 n)) item (get_or-le-sum_by f (range_with_len 0 n) k 0 (omega arith))

pub one_cycle_few : (run : Probing) (probes : Choice) (t : ℕ) → t < run.cycles → count_by (probes t) (all_bits run) ≤ count_chosen run probes
one_cycle_few run probes t lt = part_of_sum (λ u. count_by (probes u) (all_bits run)) run.cycles t lt

-- a group has a chosen probe
group_counts : (run : Probing) (probes : Choice) (b : ℕ) → cond (group_at run probes b) 1 0 ≤ sum_by (λ t. cond (probes t b) 1 0) (all_cycles run)
group_counts run probes b = go (group_at run probes b) refl
  where
    go : (g : Bool) → group_at run probes b ≡ g → cond g 1 0 ≤ sum_by (λ t. cond (probes t b) 1 0) (all_cycles run)
    go false e = omega arith
    go true e =
        let some = and_parts (is_moving run b) (list_any (moving_at run probes b) (all_cycles run)) e in
        let f = found (moving_at run probes b) run.cycles some.1 in
        let both = and_parts (run.moves f.at b) (active_at run probes b f.at) f.holds in
        let a = active_to run probes b f.at both.1 in
        let part = part_of_sum (λ t. cond (probes t b) 1 0) run.cycles a.cycle a.in_run in
        let one : 1 ≤ cond (probes a.cycle b) 1 0 = subst (λ p. 1 ≤ cond p 1 0) (sym a.chosen) (omega arith) in
        omega arith

pub few_groups : (run : Probing) (probes : Choice) → count_by (group_at run probes) (all_bits run) ≤ count_chosen run probes
few_groups run probes =
    let le = sum_by-le-sum_by (λ b. cond (group_at run probes b) 1 0) (λ b. sum_by (λ t. cond (probes t b) 1 0) (all_cycles run)) (all_bits run) (group_counts run probes) in
    let same = exchange (λ t b. cond (probes t b) 1 0) (all_cycles run) (all_bits run) in
    omega arith
