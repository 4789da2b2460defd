-- What counted rows say: how many of their signals are true.
use Rattle.std.proofs.Common.{◌≡◌, ℕ, zero, suc, ◌<◌, ◌≤◌, nat_lt, Bool, true, false, cond, List, [], ◌∷◌, length, get_or, map, All, refl, ap, subst, arith}
use Rattle.std.specs.Prelude.{sum_by, count_by}
use Rattle.std.proofs.lemmas.List.Sums.{sum_by-cons}
use Rattle.std.proofs.lemmas.List.Elements.{All-nil, All-cons}
use Rattle.circuit_clauses.specs.declared.signal.Signal.{Signal}
use Rattle.circuit_clauses.specs.declared.signal.Signal.TheVariants.{Constant}
use Rattle.circuit_clauses.specs.Signals.{value}
use Rattle.circuit_clauses.proofs.Sequences.{defined_from_hold}
use Rattle.tally_clauses.specs.Tallies.{tally_of}
use Rattle.tally_clauses.specs.Counts.{Tells, Count, IsCounted, tallies_of}
use Rattle.tally_clauses.specs.Laws.{TallyLaw, LimitLaw}
use Rattle.clause_builds.specs.Builds.{done, ◌>>=◌, tally}
use Rattle.clause_builds.specs.Rows.{singles, count_up, fresh_if, fresh_row}
use Rattle.probe_laws.proofs.Rows.{Counted}
use Rattle.probe_clauses.specs.Rows.{picked, counted, counted_row}
use Rattle.probe_laws.proofs.Meant.{Means, means-done, means-bind, means_more, each_means, ArePlaced, value_at, true_within}

-- the laws of tallies
pub record CountLaws : Type 0 where
  pub counts : TallyLaw
  pub limits : LimitLaw

-- how many signals are true
abbrev pub trues : (ℕ → Bool) → List Signal → ℕ
trues values signals = count_by (value values) signals

abbrev pub all_trues : List Count → ℕ
all_trues counts = sum_by (λ (c : Count). c.trues) counts

abbrev pub all_signals : List Count → ℕ
all_signals counts = sum_by (λ (c : Count). c.signals) counts

-- a tally counts, and does not pass its limit
pub record TellsWithin (limit : ℕ) (values : ℕ → Bool) (trues signals : ℕ) (tally : List Signal) : Type 0 where
  pub tells : Tells limit values tally trues signals
  pub most : trues ≤ limit

pub means-tally : CountLaws → (values : ℕ → Bool) (limit : ℕ) (counts : List Count) → All (IsCounted limit values) counts → All (λ (c : Count). c.trues ≤ limit) counts
    → Means values (tally limit (tallies_of counts)) (TellsWithin limit values (all_trues counts) (all_signals counts))
means-tally laws values limit counts all few var h =
    let defined = defined_from_hold values var (tally_of limit var (tallies_of counts)).steps h in
    record { tells = laws.counts values limit var counts all defined; most = (laws.limits values limit var counts all few defined).0 h }

-- ---- single signals

abbrev pub single : (ℕ → Bool) → Signal → Count
single values s = record { tally = s ∷ []; trues = cond (value values s) 1 0; signals = 1 }

one_at_most : (b : Bool) → cond b 1 0 ≤ 1
one_at_most true = omega arith
one_at_most false = omega arith

one_tells : (b : Bool) → b ≡ nat_lt 0 (cond b 1 0)
one_tells true = refl
one_tells false = refl

single_is : (limit : ℕ) (values : ℕ → Bool) (s : Signal) → 1 ≤ limit → IsCounted limit values (single values s)
single_is limit values s le = record { places = omega arith; most = one_at_most (value values s); each = each }
  where
    each : (k : ℕ) (d : Signal) → k < length (s ∷ []) → value values (get_or (s ∷ []) k d) ≡ nat_lt k (cond (value values s) 1 0)
    each zero d lt = one_tells (value values s)
    each (suc k) d lt = absurd (omega arith)

pub singles_are : (limit : ℕ) (values : ℕ → Bool) (signals : List Signal) → 1 ≤ limit → All (IsCounted limit values) (map (single values) signals)
singles_are limit values [] le = All-nil (IsCounted limit values)
singles_are limit values (s ∷ signals) le =
    All-cons (IsCounted limit values) (single values s) (map (single values) signals) (single_is limit values s le) (singles_are limit values signals le)

pub few_each : (limit : ℕ) (values : ℕ → Bool) (signals : List Signal) → 1 ≤ limit → All (λ (c : Count). c.trues ≤ limit) (map (single values) signals)
few_each limit values [] le = All-nil (λ (c : Count). c.trues ≤ limit)
few_each limit values (s ∷ signals) le =
    All-cons (λ (c : Count). c.trues ≤ limit) (single values s) (map (single values) signals) (let one = one_at_most (value values s) in omega arith) (few_each limit values signals le)

pub tallies_singles : (values : ℕ → Bool) (signals : List Signal) → tallies_of (map (single values) signals) ≡ singles signals
tallies_singles values [] = refl
tallies_singles values (s ∷ signals) = ap (λ (rest : List (List Signal)). (s ∷ []) ∷ rest) (tallies_singles values signals)

pub trues_singles : (values : ℕ → Bool) (signals : List Signal) → all_trues (map (single values) signals) ≡ trues values signals
trues_singles values [] = refl
trues_singles values (s ∷ signals) =
    let rest = trues_singles values signals in
    let a = sum_by-cons (λ (c : Count). c.trues) (single values s) (map (single values) signals) in
    let b = sum_by-cons (λ (x : Signal). cond (value values x) 1 0) s signals in
    omega arith

signals_singles : (values : ℕ → Bool) (signals : List Signal) → all_signals (map (single values) signals) ≡ length signals
signals_singles values [] = refl
signals_singles values (s ∷ signals) =
    let rest = signals_singles values signals in
    let a = sum_by-cons (λ (c : Count). c.signals) (single values s) (map (single values) signals) in
    omega arith

pub means-count_up : CountLaws → (values : ℕ → Bool) (limit : ℕ) (signals : List Signal) → 1 ≤ limit
    → Means values (count_up limit signals) (TellsWithin limit values (trues values signals) (length signals))
means-count_up laws values limit signals le =
    let counts = map (single values) signals in
    let base = means-tally laws values limit counts (singles_are limit values signals le) (few_each limit values signals le) in
    subst (λ (parts : List (List Signal)). Means values (tally limit parts) (TellsWithin limit values (trues values signals) (length signals))) (tallies_singles values signals)
    (subst (λ n. Means values (tally limit (tallies_of counts)) (TellsWithin limit values n (length signals))) (trues_singles values signals)
    (subst (λ n. Means values (tally limit (tallies_of counts)) (TellsWithin limit values (all_trues counts) n)) (signals_singles values signals) base))

-- ---- a row of variables where they are wanted

abbrev AtMostWanted : (ℕ → Bool) → Bool → Signal → Type 0
AtMostWanted values wanted s = value values s ≡ true → wanted ≡ true

means-fresh_if : (values : ℕ → Bool) (wanted : Bool) → Means values (fresh_if wanted) (AtMostWanted values wanted)
means-fresh_if values true = λ var h e. refl
means-fresh_if values false = means-done values (AtMostWanted values false) (Constant false) (λ e. absurd (cc))

-- a row has a signal for each place, which is false where none is wanted
pub record IsWanted (values : ℕ → Bool) (wanted : List Bool) (row : List Signal) : Type 0 where
  pub as_long : length row ≡ length wanted
  pub where_wanted : (k : ℕ) → value_at values row k ≡ true → get_or wanted k false ≡ true

means-fresh_row : (values : ℕ → Bool) (wanted : List Bool) → Means values (fresh_row wanted) (IsWanted values wanted)
means-fresh_row values wanted =
    means_more values (ArePlaced (AtMostWanted values) wanted) (IsWanted values wanted) (fresh_row wanted)
    (each_means values (AtMostWanted values) fresh_if (means-fresh_if values) wanted)
    (λ (row : List Signal) all. record {
      as_long = all.as_long;
      where_wanted = λ k e. (let within = true_within values row k e in
          let long = all.as_long in
          all.place k false (Constant false) (omega arith) e);
    })

-- the places that are not wanted count nothing
pub trues-picked : (values : ℕ → Bool) (wanted : List Bool) (row : List Signal) → length row ≡ length wanted
    → ((k : ℕ) → value_at values row k ≡ true → get_or wanted k false ≡ true) → trues values (picked wanted row) ≡ trues values row
trues-picked values [] [] e h = refl
trues-picked values [] (s ∷ row) e h = absurd (omega arith)
trues-picked values (w ∷ wanted) [] e h = absurd (omega arith)
trues-picked values (true ∷ wanted) (s ∷ row) e h =
    let rest = trues-picked values wanted row (omega arith) (λ k. h (suc k)) in
    let a = sum_by-cons (λ (x : Signal). cond (value values x) 1 0) s (picked wanted row) in
    let b = sum_by-cons (λ (x : Signal). cond (value values x) 1 0) s row in
    omega arith
trues-picked values (false ∷ wanted) (s ∷ row) e h =
    let rest = trues-picked values wanted row (omega arith) (λ k. h (suc k)) in
    let b = sum_by-cons (λ (x : Signal). cond (value values x) 1 0) s row in
    let none = silent (value values s) (h 0) in
    omega arith
  where
    silent : (b : Bool) → (b ≡ true → false ≡ true) → cond b 1 0 ≤ 0
    silent true f = absurd (let c = f refl in cc)
    silent false f = omega arith

-- ---- counted rows

-- the signals of a row that are wanted
abbrev pub wanted_of : List Bool → Counted → List Signal
wanted_of wanted c = picked wanted c.row

pub record IsCountedRow (values : ℕ → Bool) (limit : ℕ) (wanted : List Bool) (c : Counted) : Type 0 where
  pub row : IsWanted values wanted c.row
  pub count : TellsWithin limit values (trues values c.row) (length (wanted_of wanted c)) c.count

pub means-counted_row : CountLaws → (values : ℕ → Bool) (limit : ℕ) (wanted : List Bool) → 1 ≤ limit
    → Means values (counted_row limit wanted) (IsCountedRow values limit wanted)
means-counted_row laws values limit wanted le =
    means-bind values (IsCountedRow values limit wanted) (IsWanted values wanted) (fresh_row wanted)
    (λ (row : List Signal). count_up limit (picked wanted row) >>= (λ (count : List Signal). done (counted row count)))
    (means-fresh_row values wanted)
    (λ (row : List Signal) is. means-bind values (IsCountedRow values limit wanted) (TellsWithin limit values (trues values (picked wanted row)) (length (picked wanted row)))
    (count_up limit (picked wanted row)) (λ (count : List Signal). done (counted row count))
    (means-count_up laws values limit (picked wanted row) le)
    (λ (count : List Signal) tells. means-done values (IsCountedRow values limit wanted) (counted row count) (record {
      row = is;
      count = subst (λ n. TellsWithin limit values n (length (picked wanted row)) count) (trues-picked values wanted row is.as_long is.where_wanted) tells;
    })))
