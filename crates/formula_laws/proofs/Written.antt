-- Signals that are written into a row at the places of some moments, one after the other.
use Rattle.std.proofs.Common.{◌≡◌, ◌≢◌, ℕ, zero, suc, ◌<◌, Bool, true, false, ◌&&◌, List, [], ◌∷◌, ◌++◌, map, length, replicate, slice_set, refl, sym, ap, ◌∙◌, subst, arith}
use Rattle.std.specs.Prelude.{Contains}
use Rattle.std.proofs.lemmas.List.{length-set, get_or-set_same, get_or-set_other}
use Rattle.coco_base.specs.declared.finding.Probe.{Probe}
use Rattle.coco_model.specs.Cells.{xor}
use Rattle.coco_model.specs.Findings.{Labels}
use Rattle.coco_model.specs.Labels.{parity}
use Rattle.coco_model.specs.WrittenFindings.{AreAscending, ComesBefore}
use Rattle.coco_model.proofs.Basics.{Contains-here, Contains-later}
use Rattle.circuit_clauses.specs.declared.signal.Signal.{Signal}
use Rattle.circuit_clauses.specs.declared.signal.Signal.TheVariants.{Constant}
use Rattle.circuit_clauses.specs.Signals.{value}
use Rattle.clause_builds.specs.Rows.{signal_at}
use Rattle.node_laws.proofs.Meant.{value_at, Adds}
use Rattle.node_laws.proofs.Parities.{parity_to, sum_to, sum-adds, xor_assoc, xor_false}
use Rattle.formula_laws.proofs.Moments.{not_before_itself}

-- each moment's signal at the moment's place
abbrev pub written : (Probe → ℕ) → (Probe → Signal) → List Probe → List Signal → List Signal
written place signal [] row = row
written place signal (p ∷ ps) row = written place signal ps (slice_set row (place p) (signal p))

pub written-append : (place : Probe → ℕ) (signal : Probe → Signal) (ps qs : List Probe) (row : List Signal)
    → written place signal (ps ++ qs) row ≡ written place signal qs (written place signal ps row)
written-append place signal [] qs row = refl
written-append place signal (p ∷ ps) qs row = written-append place signal ps qs (slice_set row (place p) (signal p))

pub length-written : (place : Probe → ℕ) (signal : Probe → Signal) (ps : List Probe) (row : List Signal)
    → length (written place signal ps row) ≡ length row
length-written place signal [] row = refl
length-written place signal (p ∷ ps) row = length-written place signal ps (slice_set row (place p) (signal p)) ∙ length-set row (place p) (signal p)

-- ---- what holds of each place and its signal

set_all : (Q : ℕ → Signal → Type 0) (row : List Signal) (place : ℕ) (s : Signal) → ((i : ℕ) → Q i (signal_at row i)) → Q place s
    → (i : ℕ) → Q i (signal_at (slice_set row place s) i)
set_all Q [] place s h b i = h i
set_all Q (x ∷ xs) zero s h b zero = b
set_all Q (x ∷ xs) zero s h b (suc i) = h (suc i)
set_all Q (x ∷ xs) (suc place) s h b zero = h 0
set_all Q (x ∷ xs) (suc place) s h b (suc i) = set_all (λ k. Q (suc k)) xs place s (λ j. h (suc j)) b i

pub written_all : (Q : ℕ → Signal → Type 0) (place : Probe → ℕ) (signal : Probe → Signal) (ps : List Probe) (row : List Signal)
    → ((i : ℕ) → Q i (signal_at row i)) → ((p : Probe) → Contains ps p → Q (place p) (signal p))
    → (i : ℕ) → Q i (signal_at (written place signal ps row) i)
written_all Q place signal [] row h b = h
written_all Q place signal (p ∷ ps) row h b =
    written_all Q place signal ps (slice_set row (place p) (signal p)) (set_all Q row (place p) (signal p) h (b p (Contains-here p ps)))
    (λ q i. b q (Contains-later p q ps i))

-- ---- sums

pub falses : (n i : ℕ) → signal_at (replicate n (Constant false)) i ≡ Constant false
falses zero i = refl
falses (suc n) zero = refl
falses (suc n) (suc i) = falses n i

none_to : (f : ℕ → Bool) → ((k : ℕ) → f k ≡ false) → (n : ℕ) → parity_to f n ≡ false
none_to f none zero = refl
none_to f none (suc n) = ap (xor (parity_to f n)) (none n) ∙ xor_false (parity_to f n) ∙ none_to f none n

and_none : (a b : Bool) → a ≡ false → (a && b) ≡ false
and_none true b e = absurd (cc)
and_none false b e = refl

-- nothing is weighed at first
pub sum_of_falses : (values : ℕ → Bool) (sets : ℕ → Labels) (l n m : ℕ) → sum_to values (replicate m (Constant false)) sets l n ≡ false
sum_of_falses values sets l n m =
    none_to (λ i. value_at values (replicate m (Constant false)) i && sets i l)
    (λ i. and_none (value_at values (replicate m (Constant false)) i) (sets i l) (ap (value values) (falses m i))) n

set_false_adds : (values : ℕ → Bool) (row : List Signal) (place : ℕ) (s : Signal) → value_at values row place ≡ false
    → Adds values row place (value values s) (slice_set row place s)
set_false_adds values row place s e = record {
  here = λ lt. ap (value values) (get_or-set_same row place s (Constant false) lt) ∙ sym (ap (λ b. xor b (value values s)) e);
  elsewhere = λ i ne. ap (value values) (get_or-set_other row place i s (Constant false) ne);
  as_long = length-set row place s;
}

-- moments whose places are apart and hold false signals
pub record CanBeWritten (values : ℕ → Bool) (place : Probe → ℕ) (ps : List Probe) (row : List Signal) : Type 0 where
  pub ascending : AreAscending ps
  pub within : (p : Probe) → Contains ps p → place p < length row
  pub apart : (p q : Probe) → Contains ps p → Contains ps q → place p ≡ place q → p ≡ q
  pub empty : (p : Probe) → Contains ps p → value_at values row (place p) ≡ false

written_next : (values : ℕ → Bool) (place : Probe → ℕ) (signal : Probe → Signal) (p : Probe) (ps : List Probe) (row : List Signal)
    → CanBeWritten values place (p ∷ ps) row → CanBeWritten values place ps (slice_set row (place p) (signal p))
written_next values place signal p ps row can = record {
  ascending = can.ascending.1;
  within = λ q i. (let w = can.within q (Contains-later p q ps i) in let e = length-set row (place p) (signal p) in omega arith);
  apart = λ q r i j. can.apart q r (Contains-later p q ps i) (Contains-later p r ps j);
  empty = λ q i.
      ap (value values) (get_or-set_other row (place p) (place q) (signal p) (Constant false) (other q i)) ∙ can.empty q (Contains-later p q ps i);
}
  where
    other : (q : Probe) → Contains ps q → place q ≢ place p
    other q i e =
        let same : q ≡ p = can.apart q p (Contains-later p q ps i) (Contains-here p ps) e in
        not_before_itself p (subst (ComesBefore p) same (can.ascending.0 q i))

-- what is written adds its set
pub sum-written : (values : ℕ → Bool) (place : Probe → ℕ) (signal : Probe → Signal) (sets : ℕ → Labels) (l : ℕ)
    (ps : List Probe) (row : List Signal) → CanBeWritten values place ps row
    → sum_to values (written place signal ps row) sets l (length row)
    ≡ xor (sum_to values row sets l (length row)) (parity (map (λ (p : Probe). value values (signal p) && sets (place p) l) ps))
sum-written values place signal sets l [] row can = sym (xor_false (sum_to values row sets l (length row)))
sum-written values place signal sets l (p ∷ ps) row can =
    let next = slice_set row (place p) (signal p) in
    let bit = value values (signal p) && sets (place p) l in
    let rest = parity (map (λ (q : Probe). value values (signal q) && sets (place q) l) ps) in
    let long : length next ≡ length row = length-set row (place p) (signal p) in
    let more : sum_to values (written place signal ps next) sets l (length next) ≡ xor (sum_to values next sets l (length next)) rest =
    sum-written values place signal sets l ps next (written_next values place signal p ps row can) in
    let at_row : sum_to values (written place signal ps next) sets l (length row) ≡ xor (sum_to values next sets l (length row)) rest =
    subst (λ n. sum_to values (written place signal ps next) sets l n ≡ xor (sum_to values next sets l n) rest) long more in
    let here : sum_to values next sets l (length row) ≡ xor (sum_to values row sets l (length row)) bit =
    sum-adds values row next (place p) (value values (signal p)) sets l (length row) (omega arith) (λ e. can.within p (Contains-here p ps))
    (set_false_adds values row (place p) (signal p) (can.empty p (Contains-here p ps))) in
    at_row ∙ ap (λ b. xor b rest) here ∙ xor_assoc (sum_to values row sets l (length row)) bit rest
