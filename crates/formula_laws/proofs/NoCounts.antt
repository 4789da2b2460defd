-- Rows in which nothing is counted take no variable and no clause.
use Rattle.std.proofs.Common.{◌≡◌, ℕ, zero, suc, ◌+◌, ◌-◌, ◌*◌, ◌≤◌, Bool, false, List, [], ◌∷◌, length, take, refl, sym, ap, subst, arith}
use Rattle.std.specs.Prelude.{sum_by}
use Rattle.std.proofs.Math.Nat.{mul-le-mul_left}
use Rattle.std.proofs.lemmas.List.Sums.{sum_by-cons}
use Rattle.circuit_clauses.specs.declared.signal.Signal.{Signal}
use Rattle.circuit_clauses.specs.declared.signal.Signal.TheVariants.{Constant}
use Rattle.tally_clauses.specs.Counts.{potential}
use Rattle.tally_clauses.proofs.Charges.{AllShort}
use Rattle.clause_builds.specs.Builds.{Build, done, ◌>>=◌, each, through, demanded, tally}
use Rattle.clause_builds.specs.Rows.{signal_at, fresh_if, fresh_row, count_up}
use Rattle.clause_builds.proofs.Sizing.{Takes, Makes, AreAll, takes_more, takes-done, makes-done, takes-bind, takes-each, takes-through, takes-demanded}
use Rattle.clause_builds.proofs.Tallying.{IsWorth, takes-tally, takes-count_up}
use Rattle.probe_clauses.specs.Probings.{Probing}
use Rattle.probe_clauses.specs.Rows.{picked, counted, counted_row, counts_of, some_counted}
use Rattle.probe_clauses.specs.Passes.{bound_probes}
use Rattle.probe_clauses.proofs.Sizes.{worth_of, takes-counted, makes-counted}
use Rattle.probe_laws.proofs.Rows.{Counted}
use Rattle.formula_laws.proofs.FalseRows.{AreFalse}

-- ---- builds along lists that take nothing

pub each_nothing : {X Y : Type 0} (build : X → Build Y) (xs : List X) → ((x : X) → Takes (build x) 0 0) → Takes (each build xs) 0 0
each_nothing build xs t = takes_more (each build xs) (length xs * 0) (length xs * 0) 0 0 (takes-each build xs 0 0 t) (omega arith) (omega arith)

pub all_nothing : {X S : Type 0} (build : X → S → Build S) (xs : List X) (state : S) → ((x : X) (s : S) → Takes (build x s) 0 0)
    → Takes (through build xs state) 0 0
all_nothing build xs state t =
    takes_more (through build xs state) (length xs * 0) (length xs * 0) 0 0 (takes-through build xs state 0 0 t) (omega arith) (omega arith)

pub each_of_none : {X Y : Type 0} (build : X → Build Y) (xs : List X) → xs ≡ [] → Takes (each build xs) 0 0
unfolding each
each_of_none build xs e = subst (λ zs. Takes (each build zs) 0 0) (sym e) (takes-done [])

pub none_made : {X Y : Type 0} (build : X → Build Y) (xs : List X) → xs ≡ [] → Makes (λ (ys : List Y). ys ≡ []) (each build xs)
unfolding each
none_made {Y = Y} build xs e = subst (λ zs. Makes (λ (ys : List Y). ys ≡ []) (each build zs)) (sym e) (makes-done (λ (ys : List Y). ys ≡ []) [] refl)

pub through_none : {X S : Type 0} (build : X → S → Build S) (xs : List X) (state : S) → xs ≡ [] → Takes (through build xs state) 0 0
unfolding through
through_none build xs state e = subst (λ zs. Takes (through build zs state) 0 0) (sym e) (takes-done state)

-- ---- a row without places

has_no_count : (limit : ℕ) (count : List Signal) → 1 ≤ limit → IsWorth limit (0 * worth_of limit) count → count ≡ []
has_no_count limit [] le w = refl
has_no_count limit (s ∷ count) le w =
    let n = suc (length count) in
    let short = w.short in
    let worth = w.worth in
    let some : n * 1 ≤ n * (3 * limit - n) = mul-le-mul_left n (omega (arith, short, le)) in
    absurd (omega (arith, some, worth))

abbrev pub HasNoCount : Counted → Type 0
HasNoCount c = c.count ≡ []

pub empty_row : (limit : ℕ) (wanted : List Bool) → length wanted ≡ 0 → 1 ≤ limit → Takes (counted_row limit wanted) 0 0
empty_row limit wanted e le =
    takes_more (counted_row limit wanted) (0 + 0 * worth_of limit) (4 * (0 * worth_of limit)) 0 0
    (takes-counted limit 0 wanted e le) (omega arith) (omega arith)

pub empty_count : (limit : ℕ) (wanted : List Bool) → length wanted ≡ 0 → 1 ≤ limit → Makes HasNoCount (counted_row limit wanted)
empty_count limit wanted e le = λ var. has_no_count limit _ le (makes-counted limit 0 wanted e le var)

-- ---- a row in which no place is wanted

abbrev pub AreUnwanted : List Bool → Type 0
AreUnwanted [] = Unit {0}
AreUnwanted (w ∷ wanted) = (w ≡ false) × AreUnwanted wanted

fresh_none : (wanted : List Bool) → AreUnwanted wanted → Takes (fresh_row wanted) 0 0
unfolding each
fresh_none [] h = takes-done []
fresh_none (w ∷ wanted) h =
    takes-bind (fresh_if w) (λ (s : Signal). fresh_row wanted >>= (λ (row : List Signal). done (s ∷ row))) 0 0 0 0
    (subst (λ b. Takes (fresh_if b) 0 0) (sym h.0) (takes-done (Constant false)))
    (λ s. takes-bind (fresh_row wanted) (λ (row : List Signal). done (s ∷ row)) 0 0 0 0 (fresh_none wanted h.1) (λ row. takes-done (s ∷ row)))

picked_none : (wanted : List Bool) (row : List Signal) → AreUnwanted wanted → picked wanted row ≡ []
picked_none [] row h = refl
picked_none (w ∷ wanted) [] h = refl
picked_none (w ∷ wanted) (s ∷ row) h = subst (λ b. picked (b ∷ wanted) (s ∷ row) ≡ []) (sym h.0) (picked_none wanted row h.1)

pub unwanted_row : (limit : ℕ) (wanted : List Bool) → AreUnwanted wanted → 1 ≤ limit → Takes (counted_row limit wanted) 0 0
unwanted_row limit wanted h le =
    takes-bind (fresh_row wanted) (λ (row : List Signal). count_up limit (picked wanted row) >>= (λ (count : List Signal). done (counted row count))) 0 0 0 0
    (fresh_none wanted h) (λ row. takes-bind (count_up limit (picked wanted row)) (λ (count : List Signal). done (counted row count)) 0 0 0 0
    (subst (λ ss. Takes (count_up limit ss) 0 0) (sym (picked_none wanted row h))
    (takes_more (count_up limit []) (0 * (3 * limit - 1)) (4 * (0 * (3 * limit - 1))) 0 0 (takes-count_up limit [] le) (omega arith) (omega arith)))
    (λ count. takes-done (counted row count)))

-- ---- cycles in which nothing is counted

abbrev pub HaveNoCounts : List Counted → Type 0
HaveNoCounts [] = Unit {0}
HaveNoCounts (c ∷ cycles) = HasNoCount c × HaveNoCounts cycles

pub no_counts : (n : ℕ) (cycles : List Counted) → AreAll HasNoCount n cycles → HaveNoCounts cycles
no_counts zero [] h = tt
no_counts zero (c ∷ cycles) h = absurd h
no_counts (suc n) [] h = absurd h
no_counts (suc n) (c ∷ cycles) h = (h.0, no_counts n cycles h.1)

none_short : (limit : ℕ) (cycles : List Counted) → HaveNoCounts cycles → AllShort limit (counts_of cycles)
none_short limit [] h = tt
none_short limit (c ∷ cycles) h = (subst (λ (count : List Signal). length count ≤ limit) (sym h.0) (omega arith), none_short limit cycles h.1)

none_worth : (limit : ℕ) (cycles : List Counted) → HaveNoCounts cycles → sum_by (potential limit) (counts_of cycles) ≤ 0
none_worth limit [] h = omega arith
none_worth limit (c ∷ cycles) h =
    let e = sum_by-cons (potential limit) c.count (counts_of cycles) in
    let rest = none_worth limit cycles h.1 in
    let first : potential limit c.count ≡ potential limit [] = ap (potential limit) h.0 in
    omega (arith, e, rest, first)

pub none_false : (cycles : List Counted) → HaveNoCounts cycles → AreFalse (some_counted cycles)
none_false [] h = tt
none_false (c ∷ cycles) h = (ap (λ (count : List Signal). signal_at count 0) h.0, none_false cycles h.1)

pub bound_nothing : (run : Probing) (cycles : List Counted) → HaveNoCounts cycles → Takes (bound_probes run cycles) 0 1
bound_nothing run cycles h =
    takes-bind (tally run.order (counts_of cycles)) (λ (count : List Signal). demanded (take 1 count)) 0 0 0 1
    (takes-tally run.order 0 (counts_of cycles) (none_short run.order cycles h) (none_worth run.order cycles h))
    (λ (count : List Signal). takes-demanded (take 1 count))
