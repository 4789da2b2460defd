-- What is so of a choice: which signals are picked, which cycles are hot, what is reached.
use Rattle.std.proofs.Common.{◌≡◌, ℕ, zero, suc, ◌<◌, ◌||◌, not, Bool, true, false, List, [], ◌∷◌, length, get_or, refl, sym, ap, ◌∙◌, subst, arith}
use Rattle.std.specs.List.{range_with_len, AllByRecursion}
use Rattle.std.proofs.lemmas.List.FromFn.{length-range_with_len, get_or-range_with_len}
use Rattle.circuit_clauses.specs.declared.signal.Signal.{Signal}
use Rattle.circuit_clauses.specs.Signals.{value}
use Rattle.circuit_clauses.specs.Meanings.{IsBelow, has_true}
use Rattle.circuit_clauses.proofs.Evaluating.{value_below}
use Rattle.clause_builds.specs.Builds.{Build, each}
use Rattle.clause_builds.specs.Rows.{signal_at}
use Rattle.probe_clauses.specs.Probings.{Probing}
use Rattle.probe_clauses.specs.Rows.{picked}
use Rattle.probe_laws.specs.Showing.{Choice, IsReachedFrom}
use Rattle.probe_laws.proofs.Meant.{value_at, true_within}
use Rattle.probe_laws.proofs.Lower.{RowBelow, row_more}
use Rattle.probe_laws.proofs.Extending.{Extends, IsStable, AreBuilt, extends-each}
use Rattle.probe_laws.proofs.Choosing.{active_at, group_at}
use Rattle.probe_laws.proofs.Filling.{row_stable}
use Rattle.probe_laws.proofs.Grouping.{HasAll, all_stable, IsNear, GroupsAre}

-- builds at the numbers below one
pub extends-numbers : {Y : Type 0} (P : ℕ → ℕ → (ℕ → Bool) → Y → Type 0) → ((k : ℕ) → IsStable (P k)) → (C : ℕ → (ℕ → Bool) → Unit {0} → Type 0) → IsStable C
    → (build : ℕ → Build Y) (n : ℕ) → ((k now : ℕ) (values : ℕ → Bool) → k < n → C now values tt → Extends values now (build k) (P k))
    → (before : ℕ → Bool) (var : ℕ) → C var before tt → Extends before var (each build (range_with_len 0 n)) (AreBuilt P n)
extends-numbers {Y = Y} P stable C keeps build n turn before var c =
    let long : length (range_with_len 0 n) ≡ n = length-range_with_len 0 n in
    subst (λ m. Extends before var (each build (range_with_len 0 n)) (AreBuilt P m)) long
    (extends-each P stable C keeps build (range_with_len 0 n) 0
    (λ k now values lt d. (
    let item : get_or (range_with_len 0 n) k 0 ≡ k = get_or-range_with_len 0 n k 0 (omega arith) ∙ omega arith in
    subst (λ b. Extends values now (build b) (P k)) (sym item) (turn k now values (omega arith) d)))
    before var c)

pub built_stable : {Y : Type 0} (P : ℕ → ℕ → (ℕ → Bool) → Y → Type 0) → ((k : ℕ) → IsStable (P k)) → (n : ℕ) → IsStable (AreBuilt P n)
built_stable P stable n now later values others ys le same h = record {
  as_long = h.as_long;
  place = λ k e lt. stable k now later values others (get_or ys k e) le same (h.place k e lt);
}

pub same_truth : (a b : Bool) → (a ≡ true → b ≡ true) → (b ≡ true → a ≡ true) → a ≡ b
same_truth true b f g = sym (f refl)
same_truth false true f g = g refl
same_truth false false f g = refl

-- ---- signals that are picked

pub record IsPicked (wanted : List Bool) (row : List Signal) (s : Signal) : Type 0 where
  pub at : ℕ
  pub is_wanted : get_or wanted at false ≡ true
  pub is : s ≡ signal_at row at

pub picked_in : (wanted : List Bool) (row : List Signal) (k : ℕ) (d : Signal) → k < length (picked wanted row) → IsPicked wanted row (get_or (picked wanted row) k d)
picked_in [] row k d lt = absurd (omega arith)
picked_in (w ∷ wanted) [] k d lt = absurd (omega arith)
picked_in (true ∷ wanted) (s ∷ row) zero d lt = record { at = 0; is_wanted = refl; is = refl }
picked_in (true ∷ wanted) (s ∷ row) (suc k) d lt =
    let p = picked_in wanted row k d (omega arith) in
    record { at = suc p.at; is_wanted = p.is_wanted; is = p.is }
picked_in (false ∷ wanted) (s ∷ row) k d lt =
    let p = picked_in wanted row k d lt in
    record { at = suc p.at; is_wanted = p.is_wanted; is = p.is }

or_true : (a : Bool) → (a || true) ≡ true
or_true true = refl
or_true false = refl

pub picked_has : (values : ℕ → Bool) (wanted : List Bool) (row : List Signal) (j : ℕ) → get_or wanted j false ≡ true → value_at values row j ≡ true → has_true values (picked wanted row) ≡ true
picked_has values [] row j w e = absurd (cc)
picked_has values (w ∷ wanted) [] j h e = (let lt = true_within values [] j e in absurd (omega arith))
picked_has values (true ∷ wanted) (s ∷ row) zero h e = ap (λ b. b || has_true values (picked wanted row)) e
picked_has values (true ∷ wanted) (s ∷ row) (suc j) h e = ap (λ b. value values s || b) (picked_has values wanted row j h e) ∙ or_true (value values s)
picked_has values (false ∷ wanted) (s ∷ row) zero h e = absurd (cc)
picked_has values (false ∷ wanted) (s ∷ row) (suc j) h e = picked_has values wanted row j h e

pub all_below : (var : ℕ) (row : List Signal) → RowBelow var row → AllByRecursion (IsBelow var) row
all_below var [] h = tt
all_below var (s ∷ row) h = (h 0, all_below var row (λ i. h (suc i)))

pub not_or : (g a : Bool) (p : Bool) → a ≡ g → (g ≡ true → p ≡ true) → (not a || p) ≡ true
not_or true a p e f = (let x = f refl in rw (e, x) refl)
not_or false a p e f = rw e refl

-- ---- what is so of a choice

-- by cycle: some chosen probe lasts in it
pub record IsHot (run : Probing) (choice : Choice) (u : ℕ) : Type 0 where
  pub in_run : u < run.cycles
  pub bit : ℕ
  pub active : active_at run choice bit u ≡ true

-- a bit is reached in a cycle from a bit with a chosen probe that lasts in it
pub record IsReachedAt (run : Probing) (choice : Choice) (t i : ℕ) : Type 0 where
  pub probed : ℕ
  pub active : active_at run choice probed t ≡ true
  pub reached : IsReachedFrom run t probed i

-- the activities of a bit
pub record ActiveRow (run : Probing) (choice : Choice) (b now : ℕ) (values : ℕ → Bool) (row : List Signal) : Type 0 where
  pub below : RowBelow now row
  pub as_long : length row ≡ run.cycles
  pub is : (u : ℕ) → u < run.cycles → value_at values row u ≡ active_at run choice b u

pub active_stable : (run : Probing) (choice : Choice) (b : ℕ) → IsStable (ActiveRow run choice b)
active_stable run choice b now later values others row le same h = record {
  below = row_more now later row le h.below;
  as_long = h.as_long;
  is = λ u lt. value_below others values now (signal_at row u) (h.below u) same ∙ h.is u lt;
}

abbrev pub AreActs : Probing → Choice → ℕ → (ℕ → Bool) → List (List Signal) → Type 0
AreActs run choice now values active = AreBuilt (ActiveRow run choice) run.bits now values active

abbrev pub ReachedRows : Probing → Choice → ℕ → (ℕ → Bool) → List (List Signal) → Type 0
ReachedRows run choice now values rows = AreBuilt (λ t. HasAll (IsReachedAt run choice t)) run.cycles now values rows

pub acts_stable : (run : Probing) (choice : Choice) → IsStable (AreActs run choice)
acts_stable run choice = built_stable (ActiveRow run choice) (active_stable run choice) run.bits

pub groups_stable : (run : Probing) (choice : Choice) → IsStable (GroupsAre run choice)
groups_stable run choice now later values others all le same h = record {
  group = row_stable (group_at run choice) now later values others all.group le same h.group;
  near = all_stable (IsNear run choice) now later values others all.near le same h.near;
}
