-- Builds whose steps some values meet that go on from given ones.
use Rattle.std.proofs.Common.{◌≡◌, ℕ, zero, suc, ◌+◌, ◌<◌, ◌≤◌, Bool, true, false, not, ◌||◌, List, [], ◌∷◌, ◌++◌, length, get_or, slice_set, Option, Some, None, refl, sym, ap, ap₂, ◌∙◌, subst, arith}
use Rattle.std.specs.List.{AllByRecursion}
use Rattle.std.proofs.lemmas.List.{length-set}
use Rattle.circuit_clauses.specs.declared.signal.Signal.{Signal}
use Rattle.circuit_clauses.specs.declared.signal.Signal.TheVariants.{Constant, Literal}
use Rattle.circuit_clauses.specs.Signals.{value, negated}
use Rattle.circuit_clauses.specs.Steps.{Step, next_variable, variables_after, gate_signal}
use Rattle.circuit_clauses.specs.Steps.Step.{input, or_and_gate, xor_and_gate, demand}
use Rattle.circuit_clauses.specs.Gates.{made_by, known_xor, known_xor_and}
use Rattle.circuit_clauses.specs.Laws.{EvaluationLaw}
use Rattle.circuit_clauses.specs.Meanings.{AllHold, Holds, ReadsBelow, AllReadBelow, IsBelow, has_true}
use Rattle.circuit_clauses.proofs.Sequences.{hold-append, variables_after-append, variables_above}
use Rattle.circuit_clauses.proofs.Evaluating.{value_below, with_bit, with_bit_here, with_bit_elsewhere}
use Rattle.clause_builds.specs.Builds.{Build, done, ◌>>=◌, through, fresh, demanded, xor_gate}
use Rattle.clause_builds.specs.Rows.{signal_at, xor_into}
use Rattle.clause_builds.proofs.Lists.{through-nil, through-cons}

-- values are those of others before a variable
abbrev pub AreSame : (ℕ → Bool) → (ℕ → Bool) → ℕ → Type 0
AreSame values others var = (v : ℕ) → v < var → values v ≡ others v

-- ---- steps that hold by the variables before them

pub below_more : (var more : ℕ) (s : Signal) → var ≤ more → IsBelow var s → IsBelow more s
below_more var more (Constant bit) le h = tt
below_more var more (Literal lit) le h = let b : lit.var < var = h in omega (arith, le, b)

true_same : (values others : ℕ → Bool) (var : ℕ) (signals : List Signal) → AllByRecursion (IsBelow var) signals → AreSame values others var
    → has_true values signals ≡ has_true others signals
true_same values others var [] h e = refl
true_same values others var (s ∷ ss) h e = ap₂ (λ a b. a || b) (value_below values others var s h.0 e) (true_same values others var ss h.1 e)

step_same : (values others : ℕ → Bool) (var : ℕ) (step : Step) → ReadsBelow var step → AreSame values others (next_variable var step)
    → Holds values var step → Holds others var step
step_same values others var input h e holds = tt
step_same values others var (or_and_gate a p b) h e holds =
    let low : AreSame values others var = λ v lt. e v (omega arith) in
    sym (value_below values others (var + 1) (gate_signal var) (let l : var < var + 1 = omega arith in l) e) ∙ holds
    ∙ (let ea = value_below values others var a h.0 low in let ep = value_below values others var p h.1 low in let eb = value_below values others var b h.2 low in rw (ea, ep, eb) refl)
step_same values others var (xor_and_gate a p b) h e holds =
    let low : AreSame values others var = λ v lt. e v (omega arith) in
    sym (value_below values others (var + 1) (gate_signal var) (let l : var < var + 1 = omega arith in l) e) ∙ holds
    ∙ (let ea = value_below values others var a h.0 low in let ep = value_below values others var p h.1 low in let eb = value_below values others var b h.2 low in rw (ea, ep, eb) refl)
step_same values others var (demand signals) h e holds = let f = true_same values others var signals h e in cc

pub steps_same : (values others : ℕ → Bool) (var : ℕ) (steps : List Step) → AllReadBelow var steps → AreSame values others (variables_after var steps)
    → AllHold values var steps → AllHold others var steps
steps_same values others var [] h e holds = tt
steps_same values others var (step ∷ steps) h e holds =
    let past = variables_above (next_variable var step) steps in
    (step_same values others var step h.0 (λ v lt. e v (omega (arith, past, lt))) holds.0, steps_same values others (next_variable var step) steps h.1 e holds.1)

reads-append : (var : ℕ) (steps more : List Step) → AllReadBelow var steps → AllReadBelow (variables_after var steps) more → AllReadBelow var (steps ++ more)
reads-append var [] more h k = k
reads-append var (step ∷ steps) more h k = (h.0, reads-append (next_variable var step) steps more h.1 k)

-- ---- builds

-- some values go on from given ones and meet the steps of a build, which read earlier variables alone; then the result
-- has a property
pub record Extends {X : Type 0} (before : ℕ → Bool) (var : ℕ) (build : Build X) (P : ℕ → (ℕ → Bool) → X → Type 0) : Type 0 where
  pub values : ℕ → Bool
  pub same : AreSame values before var
  pub holds : AllHold values var (build var).steps
  pub reads : AllReadBelow var (build var).steps
  pub result : P (variables_after var (build var).steps) values (build var).result

pub extends-done : {X : Type 0} (before : ℕ → Bool) (var : ℕ) (P : ℕ → (ℕ → Bool) → X → Type 0) (x : X) → P var before x → Extends before var (done x) P
unfolding done
extends-done before var P x p = record { values = before; same = λ v lt. refl; holds = tt; reads = tt; result = p }

pub extends-bind : {X Y : Type 0} (before : ℕ → Bool) (var : ℕ) (P : ℕ → (ℕ → Bool) → Y → Type 0) (Q : ℕ → (ℕ → Bool) → X → Type 0)
    (first : Build X) (next : X → Build Y) → Extends before var first Q
    → ((x : X) (now : ℕ) (values : ℕ → Bool) → var ≤ now → AreSame values before var → Q now values x → Extends values now (next x) P)
    → Extends before var (first >>= next) P
unfolding ◌>>=◌
extends-bind {X = X} {Y = Y} before var P Q first next one rest = go (rest x now one.values (variables_above var steps) one.same one.result)
  where
    x : X
    x = (first var).result

    steps : List Step
    steps = (first var).steps

    now : ℕ
    now = variables_after var (first var).steps

    go : Extends one.values (variables_after var (first var).steps) (next (first var).result) P → Extends before var (first >>= next) P
    go other = record {
      values = other.values;
      same = λ v lt. other.same v (let up = variables_above var (first var).steps in omega arith) ∙ one.same v lt;
      holds = hold-append other.values var (first var).steps (next (first var).result (variables_after var (first var).steps)).steps
          (steps_same one.values other.values var (first var).steps one.reads (λ v lt. sym (other.same v lt)) one.holds) other.holds;
      reads = reads-append var (first var).steps (next (first var).result (variables_after var (first var).steps)).steps one.reads other.reads;
      result = subst (λ k. P k other.values (next (first var).result (variables_after var (first var).steps)).result)
          (sym (variables_after-append var (first var).steps (next (first var).result (variables_after var (first var).steps)).steps)) other.result;
    }

pub extends_more : {X : Type 0} (before : ℕ → Bool) (var : ℕ) (P Q : ℕ → (ℕ → Bool) → X → Type 0) (build : Build X) → Extends before var build P
    → ((now : ℕ) (values : ℕ → Bool) (x : X) → var ≤ now → AreSame values before var → P now values x → Q now values x) → Extends before var build Q
extends_more before var P Q build one more = record {
  values = one.values;
  same = one.same;
  holds = one.holds;
  reads = one.reads;
  result = more (variables_after var (build var).steps) one.values (build var).result (variables_above var (build var).steps) one.same one.result;
}

-- a property by how many items of a list are done
pub extends-through : {X S : Type 0} (P : ℕ → ℕ → (ℕ → Bool) → S → Type 0) (build : X → S → Build S) (xs : List X) (d : X)
    → ((k : ℕ) (s : S) (now : ℕ) (values : ℕ → Bool) → k < length xs → P k now values s → Extends values now (build (get_or xs k d) s) (P (suc k)))
    → (before : ℕ → Bool) (var : ℕ) (s : S) → P 0 var before s → Extends before var (through build xs s) (P (length xs))
extends-through {S = S} P build [] d turn before var s p =
    subst (λ (b : Build S). Extends before var b (P 0)) (sym (through-nil build s)) (extends-done before var (P 0) s p)
extends-through {S = S} P build (x ∷ xs) d turn before var s p =
    subst (λ (b : Build S). Extends before var b (P (suc (length xs)))) (sym (through-cons build x xs s))
    (extends-bind before var (P (suc (length xs))) (P 1) (build x s) (through build xs) (turn 0 s var before (omega arith) p)
    (λ (t : S) now values up same q. extends-through (λ k. P (suc k)) build xs d
    (λ k u later others lt r. turn (suc k) u later others (omega arith) r) values now t q))

-- a variable of its own can have any value
pub extends-fresh : (before : ℕ → Bool) (var : ℕ) (bit : Bool)
    → Extends before var (fresh false) (λ (now : ℕ) (values : ℕ → Bool) (s : Signal). IsBelow now s × (value values s ≡ bit))
extends-fresh before var bit = record {
  values = with_bit before var (not bit);
  same = λ v lt. with_bit_elsewhere before var (not bit) v (λ e. omega (arith, lt, e));
  holds = (tt, tt);
  reads = (tt, tt);
  result = (let l : var < var + 1 = omega arith in l, ap not (with_bit_here before var (not bit)) ∙ twice bit);
}
  where
    twice : (b : Bool) → not (not b) ≡ b
    twice true = refl
    twice false = refl

-- a demand that holds already
pub extends-demanded : (before : ℕ → Bool) (var : ℕ) (P : ℕ → (ℕ → Bool) → Unit {0} → Type 0) (signals : List Signal)
    → AllByRecursion (IsBelow var) signals → has_true before signals ≡ true → P var before tt → Extends before var (demanded signals) P
extends-demanded before var P signals low e p = record {
  values = before;
  same = λ v lt. refl;
  holds = (cc, tt);
  reads = (low, tt);
  result = p;
}

-- ---- rows of signals

abbrev pub RowBelow : ℕ → List Signal → Type 0
RowBelow var row = (i : ℕ) → IsBelow var (signal_at row i)

pub row_more : (var more : ℕ) (row : List Signal) → var ≤ more → RowBelow var row → RowBelow more row
row_more var more row le h i = below_more var more (signal_at row i) le (h i)

pub row_set : (var : ℕ) (row : List Signal) (place : ℕ) (s : Signal) → RowBelow var row → IsBelow var s → RowBelow var (slice_set row place s)
row_set var [] place s h b i = h i
row_set var (x ∷ xs) zero s h b zero = b
row_set var (x ∷ xs) zero s h b (suc i) = h (suc i)
row_set var (x ∷ xs) (suc place) s h b zero = h 0
row_set var (x ∷ xs) (suc place) s h b (suc i) = row_set var xs place s (λ j. h (suc j)) b i

pub negated_below : (var : ℕ) (s : Signal) → IsBelow var s → IsBelow var (negated s)
negated_below var (Constant bit) h = tt
negated_below var (Literal lit) h = h

abbrev KnownBelow : ℕ → Option Signal → Type 0
KnownBelow var None = Unit {0}
KnownBelow var (Some s) = IsBelow var s

xor_below : (var : ℕ) (a b : Signal) → IsBelow var a → IsBelow var b → KnownBelow var (known_xor a b)
xor_below var (Constant true) b ha hb = negated_below var b hb
xor_below var (Constant false) b ha hb = hb
xor_below var (Literal a) (Constant true) ha hb = ha
xor_below var (Literal a) (Constant false) ha hb = ha
xor_below var (Literal a) (Literal b) ha hb = tt

xor_and_below : (var : ℕ) (a p b : Signal) → IsBelow var a → IsBelow var p → IsBelow var b → KnownBelow var (known_xor_and a p b)
xor_and_below var a (Constant false) b ha hp hb = ha
xor_and_below var a (Constant true) b ha hp hb = xor_below var a b ha hb
xor_and_below var a (Literal p) (Constant false) ha hp hb = ha
xor_and_below var a (Literal p) (Constant true) ha hp hb = xor_below var a (Literal p) ha hp
xor_and_below var a (Literal p) (Literal b) ha hp hb = tt

-- a gate has its value in some values
pub extends-xor_gate : EvaluationLaw → (before : ℕ → Bool) (var : ℕ) (a p b : Signal) → IsBelow var a → IsBelow var p → IsBelow var b
    → Extends before var (xor_gate a p b) (λ (now : ℕ) (values : ℕ → Bool) (s : Signal). IsBelow now s)
extends-xor_gate law before var a p b ha hp hb = go (known_xor_and a p b) (xor_and_below var a p b ha hp hb)
  where
    go : (known : Option Signal) → KnownBelow var known
        → Extends before var (λ now. record { result = (made_by known now (xor_and_gate a p b)).signal; steps = (made_by known now (xor_and_gate a p b)).steps })
        (λ (now : ℕ) (values : ℕ → Bool) (s : Signal). IsBelow now s)
    go (Some s) h = record { values = before; same = λ v lt. refl; holds = tt; reads = tt; result = h }
    go None h =
        let one = law before var (xor_and_gate a p b ∷ []) ((ha, hp, hb), tt) in
        record {
          values = one.values;
          same = one.is_evaluation.before;
          holds = (one.is_evaluation.defined.0, tt);
          reads = ((ha, hp, hb), tt);
          result = let l : var < var + 1 = omega arith in l;
        }

-- a row whose signals are below, as long as another
pub record Row (row : List Signal) (now : ℕ) (values : ℕ → Bool) (next : List Signal) : Type 0 where
  pub below : RowBelow now next
  pub as_long : length next ≡ length row

pub extends-xor_into : EvaluationLaw → (before : ℕ → Bool) (var : ℕ) (row : List Signal) (place : ℕ) (p b : Signal) → RowBelow var row → IsBelow var p → IsBelow var b
    → Extends before var (xor_into row place p b) (Row row)
extends-xor_into law before var row place p b low hp hb =
    extends-bind before var (Row row) (λ (now : ℕ) (values : ℕ → Bool) (s : Signal). IsBelow now s) (xor_gate (signal_at row place) p b)
    (λ (s : Signal). done (slice_set row place s)) (extends-xor_gate law before var (signal_at row place) p b (low place) hp hb)
    (λ (s : Signal) now values up same h. extends-done values now (Row row) (slice_set row place s)
    (record { below = row_set now row place s (row_more var now row up low) h; as_long = length-set row place s }))
