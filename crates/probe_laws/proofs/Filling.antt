-- Rows of variables that are given values, and their counts.
use Rattle.std.proofs.Common.{◌≡◌, ℕ, suc, ◌≤◌, Bool, true, false, cond, List, [], ◌∷◌, length, get_or, map, All, refl, sym, ap, ◌∙◌, subst, arith, inl, inr}
use Rattle.std.specs.Prelude.{count_by}
use Rattle.std.specs.List.{range_with_len}
use Rattle.std.proofs.lemmas.Bool.{cases_lt, false_from_ne_true}
use Rattle.std.proofs.lemmas.List.{get_or_past}
use Rattle.std.proofs.lemmas.List.Sums.{sum_by-cons}
use Rattle.circuit_clauses.specs.declared.signal.Signal.{Signal}
use Rattle.circuit_clauses.specs.declared.signal.Signal.TheVariants.{Constant}
use Rattle.circuit_clauses.specs.Signals.{value}
use Rattle.circuit_clauses.specs.Laws.{EvaluationLaw}
use Rattle.circuit_clauses.specs.Meanings.{IsBelow, AreDefined, AllHold}
use Rattle.circuit_clauses.proofs.Evaluating.{value_below}
use Rattle.tally_clauses.specs.Tallies.{tally_of}
use Rattle.tally_clauses.specs.Counts.{Count, IsCounted, tallies_of}
use Rattle.clause_builds.specs.Builds.{done, ◌>>=◌, tally}
use Rattle.clause_builds.specs.Rows.{signal_at, fresh_if, fresh_row, singles, count_up}
use Rattle.probe_clauses.specs.Rows.{picked, counted, counted_row}
use Rattle.probe_laws.proofs.Rows.{Counted}
use Rattle.probe_laws.proofs.Meant.{value_at}
use Rattle.probe_laws.proofs.Tallied.{CountLaws, trues, all_trues, single, singles_are, few_each, tallies_singles, trues_singles, trues-picked}
use Rattle.probe_laws.proofs.Counted.{sum_places}
use Rattle.probe_laws.proofs.Choosing.{sum_cong}
use Rattle.probe_laws.proofs.Lower.{RowBelow, RowsBelow, row_more, row_cons, row_nil, below_more, low-tally}
use Rattle.probe_laws.proofs.Extending.{Extends, AreSame, IsStable, AreBuilt, extends-done, extends-bind, extends_more, extends-each, extends-fresh, extends-low}

-- ---- rows with given values

pub record RowIs (f : ℕ → Bool) (now : ℕ) (values : ℕ → Bool) (row : List Signal) : Type 0 where
  pub below : RowBelow now row
  pub is : (i : ℕ) → value_at values row i ≡ f i

pub row_stable : (f : ℕ → Bool) → IsStable (RowIs f)
row_stable f now later values others row le same r = record {
  below = row_more now later row le r.below;
  is = λ i. value_below others values now (signal_at row i) (r.below i) same ∙ r.is i;
}

abbrev pub SignalIs : (ℕ → Bool) → ℕ → ℕ → (ℕ → Bool) → Signal → Type 0
SignalIs f k now values s = IsBelow now s × (value values s ≡ f k)

pub signal_stable : (f : ℕ → Bool) (k : ℕ) → IsStable (SignalIs f k)
signal_stable f k now later values others s le same h = (below_more now later s le h.0, value_below others values now s h.0 same ∙ h.1)

-- a row as long as what is wanted
abbrev pub FilledRow : (ℕ → Bool) → ℕ → ℕ → (ℕ → Bool) → List Signal → Type 0
FilledRow f n now values row = RowIs f now values row × (length row ≡ n)

fill_one : (f : ℕ → Bool) (k : ℕ) (wanted : Bool) (before : ℕ → Bool) (var : ℕ) → (f k ≡ true → wanted ≡ true) → Extends before var (fresh_if wanted) (SignalIs f k)
fill_one f k true before var h = extends-fresh before var (f k)
fill_one f k false before var h =
    extends-done before var (SignalIs f k) (Constant false) (tt, sym (false_from_ne_true (f k) (λ e. (let g = h e in cc))))

pub extends-fresh_row : (f : ℕ → Bool) (wanted : List Bool) → ((k : ℕ) → f k ≡ true → get_or wanted k false ≡ true)
    → (before : ℕ → Bool) (var : ℕ) → Extends before var (fresh_row wanted) (FilledRow f (length wanted))
extends-fresh_row f wanted h before var =
    extends_more before var (AreBuilt (SignalIs f) (length wanted)) (FilledRow f (length wanted)) (fresh_row wanted)
    (extends-each (SignalIs f) (signal_stable f) (λ now values u. Unit {0}) (λ now later values others u le same c. tt) fresh_if wanted false
    (λ k now values lt c. fill_one f k (get_or wanted k false) values now (h k)) before var tt)
    (λ now values (row : List Signal) up same all. (filled now values row all, all.as_long))
  where
    filled : (now : ℕ) (values : ℕ → Bool) (row : List Signal) → AreBuilt (SignalIs f) (length wanted) now values row → RowIs f now values row
    filled now values row all = record { below = λ i. (at i).0; is = λ i. (at i).1 }
      where
        at : (i : ℕ) → SignalIs f i now values (signal_at row i)
        at i = elim (cases_lt i (length wanted)) [
          | inl lt ↦ all.place i (Constant false) lt
          | inr ge ↦
              let past : signal_at row i ≡ Constant false = get_or_past row i (Constant false) (let long = all.as_long in omega arith) in
              let none : f i ≡ false = false_from_ne_true (f i) (λ e. (let w = h i e in let p = get_or_past wanted i false ge in cc)) in
              subst (SignalIs f i now values) (sym past) (tt, sym none)
        ]

-- ---- tallies

-- what the parts of a tally count, within the limit
pub record IsTallied (limit : ℕ) (values : ℕ → Bool) (parts : List (List Signal)) : Type 0 where
  pub counts : List Count
  pub are : tallies_of counts ≡ parts
  pub told : All (IsCounted limit values) counts
  pub few : All (λ (c : Count). c.trues ≤ limit) counts
  pub within : all_trues counts ≤ limit

pub extends-tally : EvaluationLaw → CountLaws → (limit : ℕ) (before : ℕ → Bool) (var : ℕ) (parts : List (List Signal)) → RowsBelow var parts
    → ((values : ℕ → Bool) → AreSame values before var → IsTallied limit values parts)
    → Extends before var (tally limit parts) (λ now values t. RowBelow now t)
extends-tally law laws limit before var parts low tallied =
    extends-low law (λ step. Unit {0}) before var (tally limit parts) RowBelow (low-tally limit var parts low)
    (λ values same defined.
    let t = tallied values same in
    subst (λ (ps : List (List Signal)). AreDefined values var (tally_of limit var ps).steps → AllHold values var (tally_of limit var ps).steps) t.are
    (λ d. (laws.limits values limit var t.counts t.told t.few d).1 t.within) defined)

pub trues_same : (values others : ℕ → Bool) (var : ℕ) (signals : List Signal) → RowBelow var signals → AreSame values others var → trues values signals ≡ trues others signals
trues_same values others var [] h same = refl
trues_same values others var (s ∷ signals) h same =
    let rest = trues_same values others var signals (λ i. h (suc i)) same in
    let one : ◌≡◌ {A = ℕ} (cond (value values s) 1 0) (cond (value others s) 1 0) = ap (λ b. cond b 1 0) (value_below values others var s (h 0) same) in
    let a = sum_by-cons (λ (x : Signal). cond (value values x) 1 0) s signals in
    let b = sum_by-cons (λ (x : Signal). cond (value others x) 1 0) s signals in
    omega arith

singles_below : (var : ℕ) (signals : List Signal) → RowBelow var signals → RowsBelow var (singles signals)
singles_below var [] h = tt
singles_below var (s ∷ signals) h = (row_cons var s [] (h 0) (row_nil var), singles_below var signals (λ i. h (suc i)))

pub picked_below : (var : ℕ) (wanted : List Bool) (row : List Signal) → RowBelow var row → RowBelow var (picked wanted row)
picked_below var [] row h = row_nil var
picked_below var (w ∷ wanted) [] h = row_nil var
picked_below var (true ∷ wanted) (s ∷ row) h = row_cons var s (picked wanted row) (h 0) (picked_below var wanted row (λ i. h (suc i)))
picked_below var (false ∷ wanted) (s ∷ row) h = picked_below var wanted row (λ i. h (suc i))

extends-count_up : EvaluationLaw → CountLaws → (limit : ℕ) → 1 ≤ limit → (before : ℕ → Bool) (var : ℕ) (signals : List Signal) → RowBelow var signals
    → trues before signals ≤ limit → Extends before var (count_up limit signals) (λ now values t. RowBelow now t)
extends-count_up law laws limit le before var signals low within =
    extends-tally law laws limit before var (singles signals) (singles_below var signals low)
    (λ values same. record {
      counts = map (single values) signals;
      are = tallies_singles values signals;
      told = singles_are limit values signals le;
      few = few_each limit values signals le;
      within = (let a = trues_singles values signals in let b = trues_same values before var signals low same in omega arith);
    })

-- ---- counted rows

pub record IsFilled (f : ℕ → Bool) (limit : ℕ) (wanted : List Bool) (now : ℕ) (values : ℕ → Bool) (c : Counted) : Type 0 where
  pub row : RowIs f now values c.row
  pub as_long : length c.row ≡ length wanted
  pub count : RowBelow now c.count

pub filled_stable : (f : ℕ → Bool) (limit : ℕ) (wanted : List Bool) → IsStable (IsFilled f limit wanted)
filled_stable f limit wanted now later values others c le same h = record {
  row = row_stable f now later values others c.row le same h.row;
  as_long = h.as_long;
  count = row_more now later c.count le h.count;
}

pub trues_filled : (f : ℕ → Bool) (n now : ℕ) (values : ℕ → Bool) (row : List Signal) → FilledRow f n now values row → trues values row ≡ count_by f (range_with_len 0 n)
trues_filled f n now values row h =
    sum_places (λ (s : Signal). cond (value values s) 1 0) row n (Constant false) h.1
    ∙ sum_cong (λ k. cond (value_at values row k) 1 0) (λ k. cond (f k) 1 0) (range_with_len 0 n) (λ k. ap (λ b. cond b 1 0) (h.0.is k))

pub extends-counted_row : EvaluationLaw → CountLaws → (limit : ℕ) → 1 ≤ limit → (f : ℕ → Bool) (wanted : List Bool)
    → ((k : ℕ) → f k ≡ true → get_or wanted k false ≡ true) → count_by f (range_with_len 0 (length wanted)) ≤ limit
    → (before : ℕ → Bool) (var : ℕ) → Extends before var (counted_row limit wanted) (IsFilled f limit wanted)
extends-counted_row law laws limit le f wanted h few before var =
    extends-bind before var (IsFilled f limit wanted) (FilledRow f (length wanted)) (fresh_row wanted)
    (λ (row : List Signal). count_up limit (picked wanted row) >>= (λ (count : List Signal). done (counted row count)))
    (extends-fresh_row f wanted h before var)
    (λ (row : List Signal) now values up same filled.
    extends-bind values now (IsFilled f limit wanted) (λ later others (t : List Signal). RowBelow later t × RowIs f later others row) (count_up limit (picked wanted row))
    (λ (count : List Signal). done (counted row count))
    (extends_more values now (λ later others (t : List Signal). RowBelow later t) (λ later others (t : List Signal). RowBelow later t × RowIs f later others row) (count_up limit (picked wanted row))
    (extends-count_up law laws limit le values now (picked wanted row) (picked_below now wanted row filled.0.below)
    (let a = trues_filled f (length wanted) now values row filled in
    let b = trues-picked values wanted row filled.1 (λ k e. h k (sym (filled.0.is k) ∙ e)) in
    omega arith))
    (λ later others (t : List Signal) more alike low. (low, row_stable f now later values others row more alike filled.0)))
    (λ (count : List Signal) later others more alike both.
    extends-done others later (IsFilled f limit wanted) (counted row count) (record { row = both.1; as_long = filled.1; count = both.0 })))
