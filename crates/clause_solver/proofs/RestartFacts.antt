-- How many restarts come before a line.
use Rattle.std.proofs.Common.{◌≡◌, ℕ, suc, zero, ◌+◌, ◌-◌, ◌*◌, ◌<◌, ◌≤◌, ◌^◌, min, refl, sym, ap, ◌∙◌, inl, inr, arith}
use Rattle.std.proofs.lemmas.Bool.{cases_eq, cases_lt}
use Rattle.clause_solver.specs.Restarts.{luby_of, restart_at, restarts_among, restarts_of, IsPlanned, IsCurrent}
use Rattle.clause_solver.proofs.LubyFacts.{less_true, less_false, luby_of_positive}

pub at_zero : (every : ℕ) → restart_at every 0 ≡ 0
unfolding restart_at
at_zero every = refl

pub at_suc : (every j : ℕ) → restart_at every (suc j) ≡ restart_at every j + every * luby_of (suc j)
unfolding restart_at
at_suc every j = refl

pub at_grows : (every j : ℕ) → 0 < every → restart_at every j + every ≤ restart_at every (suc j)
at_grows every j pos =
    let e : restart_at every (suc j) ≡ restart_at every j + every * luby_of (suc j) = at_suc every j in
    let p : 0 < luby_of (suc j) = luby_of_positive (suc j) in
    let m : every ≤ every * luby_of (suc j) = times every (luby_of (suc j)) p in
    omega arith
  where
    times : (a b : ℕ) → 0 < b → a ≤ a * b
    times a zero pos = absurd (omega arith)
    times a (suc b) pos = let e : a * suc b ≡ a * b + a = omega arith in omega arith

pub at_least : (every j : ℕ) → 0 < every → j ≤ restart_at every j
at_least every zero pos = omega arith
at_least every (suc j) pos = let g : restart_at every j + every ≤ restart_at every (suc j) = at_grows every j pos in let h : j ≤ restart_at every j = at_least every j pos in omega arith

at_more : (every j d : ℕ) → 0 < every → restart_at every j ≤ restart_at every (d + j)
at_more every j zero pos = let e : zero + j ≡ j = omega arith in rw e (omega arith)
at_more every j (suc d) pos =
    let e : suc d + j ≡ suc (d + j) = omega arith in
    let g : restart_at every (d + j) + every ≤ restart_at every (suc (d + j)) = at_grows every (d + j) pos in
    let h : restart_at every j ≤ restart_at every (d + j) = at_more every j d pos in
    rw e (omega arith)

at_mono : (every i j : ℕ) → 0 < every → i ≤ j → restart_at every i ≤ restart_at every j
at_mono every i j pos le = let e : j - i + i ≡ j = omega arith in let h : restart_at every i ≤ restart_at every (j - i + i) = at_more every i (j - i) pos in rw (← e) h

among_yes : (every n m : ℕ) → restart_at every (suc m) < n → restarts_among every n (suc m) ≡ restarts_among every n m + 1
unfolding restarts_among
among_yes every n m lt = rw (less_true (restart_at every (suc m)) n lt) refl

among_no : (every n m : ℕ) → n ≤ restart_at every (suc m) → restarts_among every n (suc m) ≡ restarts_among every n m + 0
unfolding restarts_among
among_no every n m le = rw (less_false (restart_at every (suc m)) n le) refl

pub among_none : (every n : ℕ) → restarts_among every n 0 ≡ 0
unfolding restarts_among
among_none every n = refl

among_all : (every n j m : ℕ) → 0 < every → m ≤ j → restart_at every j < n → restarts_among every n m ≡ m
among_all every n j zero pos le lt = among_none every n
among_all every n j (suc m) pos le lt =
    let mono : restart_at every (suc m) ≤ restart_at every j = at_mono every (suc m) j pos le in
    let rest : restarts_among every n m ≡ m = among_all every n j m pos (omega arith) lt in
    let yes : restarts_among every n (suc m) ≡ restarts_among every n m + 1 = among_yes every n m (omega arith) in
    omega arith

among_past : (every n j d : ℕ) → 0 < every → restart_at every j < n → n ≤ restart_at every (suc j) → restarts_among every n (d + j) ≡ j
among_past every n j zero pos lt le = let e : zero + j ≡ j = omega arith in rw e (among_all every n j j pos (omega arith) lt)
among_past every n j (suc d) pos lt le =
    let e : suc d + j ≡ suc (d + j) = omega arith in
    let mono : restart_at every (suc j) ≤ restart_at every (suc (d + j)) = at_mono every (suc j) (suc (d + j)) pos (omega arith) in
    let no : restarts_among every n (suc (d + j)) ≡ restarts_among every n (d + j) + 0 = among_no every n (d + j) (omega arith) in
    let rest : restarts_among every n (d + j) ≡ j = among_past every n j d pos lt le in
    rw e (omega arith)

-- the restarts before line n are those that were made by then
pub restarts_are : (every n j : ℕ) → 0 < every → restart_at every j < n → n ≤ restart_at every (suc j) → restarts_of every n ≡ j
restarts_are every n j pos lt le =
    let least : j ≤ restart_at every j = at_least every j pos in
    let e : n - j + j ≡ n = omega arith in
    let h : restarts_among every n (n - j + j) ≡ j = among_past every n j (n - j) pos lt le in
    rw e at h

-- no restart comes where its first one would come after all lines
pub no_restarts : (every n : ℕ) → n ≤ every → restarts_of every n ≡ 0
no_restarts every zero le = among_none every 0
no_restarts every (suc n) le =
    let z : restart_at every 0 ≡ 0 = at_zero every in
    let g : restart_at every 0 + every ≤ restart_at every 1 = at_grows every 0 (omega arith) in
    restarts_are every (suc n) 0 (omega arith) (omega arith) (omega arith)

-- a greater distance than there are steps is as good as one of so many
pub restarts_bounded : (every steps n : ℕ) → n ≤ steps → restarts_of (min every steps) n ≡ restarts_of every n
restarts_bounded every steps n le =
    elim (cases_lt steps every) [
      | inl less ↦ let m : min every steps ≡ steps = omega arith in rw m (no_restarts steps n le ∙ sym (no_restarts every n (omega arith)))
      | inr ge ↦ let m : min every steps ≡ every = omega arith in rw m refl
    ]

pub going_on : (every restarts next count : ℕ) → IsCurrent every restarts next count → IsPlanned every restarts next (count + 1)
going_on every restarts next count g =
    let ahead : count < next = g.ahead in
    let passed : restart_at every restarts ≤ count = g.passed in
    record {
      next_is = g.next_is;
      began = λ e. absurd (omega arith);
      passed = λ pos. omega arith;
      due = omega arith;
    }

pub going_restarts : (every restarts next count : ℕ) → 0 < every → IsCurrent every restarts next count → restarts_of every (count + 1) ≡ restarts
going_restarts every restarts next count pos g =
    let ahead : count < next = g.ahead in
    let passed : restart_at every restarts ≤ count = g.passed in
    let is : next ≡ restart_at every (suc restarts) = g.next_is in
    restarts_are every (count + 1) restarts pos (omega arith) (omega arith)

pub planned_restarts : (every restarts next count : ℕ) → 0 < every → 0 < count → IsPlanned every restarts next count → restarts_of every count ≡ restarts
planned_restarts every restarts next count pos some p =
    let due : count ≤ next = p.due in
    let is : next ≡ restart_at every (suc restarts) = p.next_is in
    restarts_are every count restarts pos (p.passed some) (omega arith)

pub times_less : (a b : ℕ) → a ≤ 1000000000 → b < 2 ^ 31 → a * b < 2 ^ 62
times_less a b few less =
    let one : a * b ≤ 1000000000 * b = mul_more a 1000000000 b few in
    omega arith
  where
    mul_more : (a c b : ℕ) → a ≤ c → a * b ≤ c * b
    mul_more a c zero le = let x : a * 0 ≡ 0 = omega arith in let y : c * 0 ≡ 0 = omega arith in omega arith
    mul_more a c (suc b) le =
        let x : a * suc b ≡ a * b + a = omega arith in
        let y : c * suc b ≡ c * b + c = omega arith in
        let h : a * b ≤ c * b = mul_more a c b le in
        omega arith

pub planned_first : (every next : ℕ) → next ≡ every * luby_of 1 → IsPlanned every 0 next 0
planned_first every next e =
    let s : restart_at every 1 ≡ restart_at every 0 + every * luby_of 1 = at_suc every 0 in
    let z : restart_at every 0 ≡ 0 = at_zero every in
    record { next_is = omega arith; began = λ x. refl; passed = λ pos. absurd (omega arith); due = omega arith }

-- how few restarts there were
pub planned_few : (every restarts next count : ℕ) → 0 < every → IsPlanned every restarts next count → restarts ≤ count
planned_few every restarts next count pos p =
    elim (cases_eq count 0) [
      | inl none ↦ let r : restarts ≡ 0 = p.began none in omega arith
      | inr some ↦ let s : restart_at every restarts < count = p.passed (omega arith) in let l : restarts ≤ restart_at every restarts = at_least every restarts pos in omega arith
    ]

pub going_same : (every restarts next count : ℕ) → IsPlanned every restarts next count → count < next → IsCurrent every restarts next count
going_same every restarts next count p ahead = record {
  next_is = p.next_is;
  passed =
      elim (cases_eq count 0) [
        | inl none ↦ let r : restarts ≡ 0 = p.began none in let z : restart_at every 0 ≡ 0 = at_zero every in rw r (omega arith)
        | inr some ↦ let s : restart_at every restarts < count = p.passed (omega arith) in omega arith
      ];
  ahead = ahead;
}

pub going_new : (every restarts next count restarts' next' : ℕ) → 0 < every → IsPlanned every restarts next count → next ≤ count → restarts' ≡ restarts + 1 → next' ≡ next + every * luby_of (restarts' + 1) → IsCurrent every restarts' next' count
going_new every restarts next count restarts' next' pos p due e f =
    let is : next ≡ restart_at every (suc restarts) = p.next_is in
    let at : restarts' ≡ suc restarts = omega arith in
    let one : restarts' + 1 ≡ suc restarts' = omega arith in
    let s : restart_at every (suc restarts') ≡ restart_at every restarts' + every * luby_of (suc restarts') = at_suc every restarts' in
    let here : restart_at every restarts' ≡ restart_at every (suc restarts) = ap (restart_at every) at in
    let g : restart_at every restarts' + every ≤ restart_at every (suc restarts') = at_grows every restarts' pos in
    let new : next' ≡ next + every * luby_of (suc restarts') = rw one at f in
    let le : count ≤ next = p.due in
    record { next_is = omega arith; passed = omega arith; ahead = omega arith }
