-- Builds whose steps some values meet that go on from given ones.
use Rattle.std.proofs.Common.{◌≡◌, ℕ, zero, suc, ◌+◌, ◌<◌, ◌≤◌, Bool, true, false, not, ◌||◌, List, [], ◌∷◌, length, get_or, refl, sym, ap, ap₂, ◌∙◌, subst, arith}
use Rattle.std.specs.List.{AllByRecursion}
use Rattle.circuit_clauses.specs.declared.signal.Signal.{Signal}
use Rattle.circuit_clauses.specs.Signals.{value}
use Rattle.circuit_clauses.specs.Steps.{Step, next_variable, variables_after, gate_signal}
use Rattle.circuit_clauses.specs.Steps.Step.{input, or_and_gate, xor_and_gate, demand}
use Rattle.circuit_clauses.specs.Laws.{EvaluationLaw}
use Rattle.circuit_clauses.specs.Meanings.{AllHold, Holds, IsDefined, AreDefined, ReadsBelow, AllReadBelow, IsBelow, has_true}
use Rattle.circuit_clauses.proofs.Sequences.{hold-append, variables_after-append, variables_above}
use Rattle.circuit_clauses.proofs.Evaluating.{value_below, with_bit, with_bit_here, with_bit_elsewhere}
use Rattle.clause_builds.specs.Builds.{Build, done, ◌>>=◌, each, through, fresh, demanded}
use Rattle.clause_builds.proofs.Lists.{each-nil, each-cons, through-nil, through-cons}
use Rattle.probe_laws.proofs.Meant.{Means}
use Rattle.probe_laws.proofs.Lower.{Low, reads-append}

-- values are those of others before a variable
abbrev pub AreSame : (ℕ → Bool) → (ℕ → Bool) → ℕ → Type 0
AreSame values others var = (v : ℕ) → v < var → values v ≡ others v

-- ---- steps that hold by the variables before them

true_same : (values others : ℕ → Bool) (var : ℕ) (signals : List Signal) → AllByRecursion (IsBelow var) signals → AreSame values others var
    → has_true values signals ≡ has_true others signals
true_same values others var [] h e = refl
true_same values others var (s ∷ ss) h e = ap₂ (λ a b. a || b) (value_below values others var s h.0 e) (true_same values others var ss h.1 e)

step_same : (values others : ℕ → Bool) (var : ℕ) (step : Step) → ReadsBelow var step → AreSame values others (next_variable var step)
    → Holds values var step → Holds others var step
step_same values others var input h e holds = tt
step_same values others var (or_and_gate a p b) h e holds =
    let low : AreSame values others var = λ v lt. e v (omega arith) in
    sym (value_below values others (var + 1) (gate_signal var) (let l : var < var + 1 = omega arith in l) e) ∙ holds
    ∙ (let ea = value_below values others var a h.0 low in let ep = value_below values others var p h.1 low in let eb = value_below values others var b h.2 low in rw (ea, ep, eb) refl)
step_same values others var (xor_and_gate a p b) h e holds =
    let low : AreSame values others var = λ v lt. e v (omega arith) in
    sym (value_below values others (var + 1) (gate_signal var) (let l : var < var + 1 = omega arith in l) e) ∙ holds
    ∙ (let ea = value_below values others var a h.0 low in let ep = value_below values others var p h.1 low in let eb = value_below values others var b h.2 low in rw (ea, ep, eb) refl)
step_same values others var (demand signals) h e holds = let f = true_same values others var signals h e in cc

steps_same : (values others : ℕ → Bool) (var : ℕ) (steps : List Step) → AllReadBelow var steps → AreSame values others (variables_after var steps)
    → AllHold values var steps → AllHold others var steps
steps_same values others var [] h e holds = tt
steps_same values others var (step ∷ steps) h e holds =
    let past = variables_above (next_variable var step) steps in
    (step_same values others var step h.0 (λ v lt. e v (omega (arith, past, lt))) holds.0, steps_same values others (next_variable var step) steps h.1 e holds.1)

-- ---- builds

-- some values go on from given ones and meet the steps of a build, which read earlier variables alone; then the result
-- has a property
pub record Extends {X : Type 0} (before : ℕ → Bool) (var : ℕ) (build : Build X) (P : ℕ → (ℕ → Bool) → X → Type 0) : Type 0 where
  pub values : ℕ → Bool
  pub same : AreSame values before var
  pub holds : AllHold values var (build var).steps
  pub reads : AllReadBelow var (build var).steps
  pub result : P (variables_after var (build var).steps) values (build var).result

pub extends-done : {X : Type 0} (before : ℕ → Bool) (var : ℕ) (P : ℕ → (ℕ → Bool) → X → Type 0) (x : X) → P var before x → Extends before var (done x) P
unfolding done
extends-done before var P x p = record { values = before; same = λ v lt. refl; holds = tt; reads = tt; result = p }

pub extends-bind : {X Y : Type 0} (before : ℕ → Bool) (var : ℕ) (P : ℕ → (ℕ → Bool) → Y → Type 0) (Q : ℕ → (ℕ → Bool) → X → Type 0)
    (first : Build X) (next : X → Build Y) → Extends before var first Q
    → ((x : X) (now : ℕ) (values : ℕ → Bool) → var ≤ now → AreSame values before var → Q now values x → Extends values now (next x) P)
    → Extends before var (first >>= next) P
unfolding ◌>>=◌
extends-bind {X = X} {Y = Y} before var P Q first next one rest = go (rest (first var).result (variables_after var (first var).steps) one.values (variables_above var (first var).steps) one.same one.result)
  where
    go : Extends one.values (variables_after var (first var).steps) (next (first var).result) P → Extends before var (first >>= next) P
    go other = record {
      values = other.values;
      same = λ v lt. other.same v (let up = variables_above var (first var).steps in omega arith) ∙ one.same v lt;
      holds = hold-append other.values var (first var).steps (next (first var).result (variables_after var (first var).steps)).steps
          (steps_same one.values other.values var (first var).steps one.reads (λ v lt. sym (other.same v lt)) one.holds) other.holds;
      reads = reads-append var (first var).steps (next (first var).result (variables_after var (first var).steps)).steps one.reads other.reads;
      result = subst (λ k. P k other.values (next (first var).result (variables_after var (first var).steps)).result)
          (sym (variables_after-append var (first var).steps (next (first var).result (variables_after var (first var).steps)).steps)) other.result;
    }

-- what the steps say of the result
pub extends_meaning : {X : Type 0} (before : ℕ → Bool) (var : ℕ) (P Q : ℕ → (ℕ → Bool) → X → Type 0) (M : (ℕ → Bool) → X → Type 0) (build : Build X)
    → Extends before var build P → ((values : ℕ → Bool) → AreSame values before var → Means values build (M values))
    → ((now : ℕ) (values : ℕ → Bool) (x : X) → var ≤ now → AreSame values before var → P now values x → M values x → Q now values x) → Extends before var build Q
extends_meaning before var P Q M build one means more = record {
  values = one.values;
  same = one.same;
  holds = one.holds;
  reads = one.reads;
  result = more (variables_after var (build var).steps) one.values (build var).result (variables_above var (build var).steps) one.same one.result (means one.values one.same var one.holds);
}

pub extends_more : {X : Type 0} (before : ℕ → Bool) (var : ℕ) (P Q : ℕ → (ℕ → Bool) → X → Type 0) (build : Build X) → Extends before var build P
    → ((now : ℕ) (values : ℕ → Bool) (x : X) → var ≤ now → AreSame values before var → P now values x → Q now values x) → Extends before var build Q
extends_more before var P Q build one more =
    extends_meaning before var P Q (λ values x. Unit {0}) build one (λ values same now h. tt) (λ now values x up same p none. more now values x up same p)

-- a property that holds of a build's state from a variable and its values on
pub extends-through : {X S : Type 0} (P : ℕ → (ℕ → Bool) → S → Type 0) (build : X → S → Build S)
    → (xs : List X) (d : X) → ((k : ℕ) (s : S) (now : ℕ) (values : ℕ → Bool) → k < length xs → P now values s → Extends values now (build (get_or xs k d) s) P)
    → (before : ℕ → Bool) (var : ℕ) (s : S) → P var before s → Extends before var (through build xs s) P
extends-through {S = S} P build [] d turn before var s p =
    subst (λ (b : Build S). Extends before var b P) (sym (through-nil build s)) (extends-done before var P s p)
extends-through {S = S} P build (x ∷ xs) d turn before var s p =
    subst (λ (b : Build S). Extends before var b P) (sym (through-cons build x xs s))
    (extends-bind before var P P (build x s) (through build xs) (turn 0 s var before (omega arith) p)
    (λ (t : S) now values up same q. extends-through P build xs d (λ k u later others lt r. turn (suc k) u later others (omega arith) r) values now t q))

-- a property goes on where later variables come to it
abbrev pub IsStable : {Y : Type 0} → (ℕ → (ℕ → Bool) → Y → Type 0) → Type 0
IsStable {Y = Y} P =
    (now later : ℕ) (values others : ℕ → Bool) (y : Y) → now ≤ later → AreSame others values now → P now values y → P later others y

-- results by the places of a list, each with a property of its place
pub record AreBuilt {Y : Type 0} (P : ℕ → ℕ → (ℕ → Bool) → Y → Type 0) (n now : ℕ) (values : ℕ → Bool) (ys : List Y) : Type 0 where
  pub as_long : length ys ≡ n
  pub place : (k : ℕ) (e : Y) → k < n → P k now values (get_or ys k e)

pub extends-each : {X Y : Type 0} (P : ℕ → ℕ → (ℕ → Bool) → Y → Type 0) → ((k : ℕ) → IsStable (P k)) → (C : ℕ → (ℕ → Bool) → Unit {0} → Type 0) → IsStable C
    → (build : X → Build Y) (xs : List X) (d : X)
    → ((k now : ℕ) (values : ℕ → Bool) → k < length xs → C now values tt → Extends values now (build (get_or xs k d)) (P k))
    → (before : ℕ → Bool) (var : ℕ) → C var before tt → Extends before var (each build xs) (AreBuilt P (length xs))
extends-each {Y = Y} P stable C keeps build [] d turn before var c =
    subst (λ (b : Build (List Y)). Extends before var b (AreBuilt P 0)) (sym (each-nil build))
    (extends-done before var (AreBuilt P 0) [] (record { as_long = refl; place = λ k e lt. absurd (omega arith) }))
extends-each {Y = Y} P stable C keeps build (x ∷ xs) d turn before var c =
    subst (λ (b : Build (List Y)). Extends before var b (AreBuilt P (suc (length xs)))) (sym (each-cons build x xs))
    (extends-bind before var (AreBuilt P (suc (length xs))) (P 0) (build x) (λ (y : Y). each build xs >>= (λ ys. done (y ∷ ys))) (turn 0 var before (omega arith) c)
    (λ (y : Y) now values up same p.
    extends-bind values now (AreBuilt P (suc (length xs))) (λ later others (ys : List Y). (now ≤ later) × AreSame others values now × AreBuilt (λ k. P (suc k)) (length xs) later others ys)
    (each build xs) (λ (ys : List Y). done (y ∷ ys))
    (extends_more values now (AreBuilt (λ k. P (suc k)) (length xs))
    (λ later others (ys : List Y). (now ≤ later) × AreSame others values now × AreBuilt (λ k. P (suc k)) (length xs) later others ys) (each build xs)
    (extends-each (λ k. P (suc k)) (λ k. stable (suc k)) C keeps build xs d (λ k later others lt c2. turn (suc k) later others (omega arith) c2) values now (keeps var now before values tt up same c))
    (λ later others ys more alike built. (more, alike, built)))
    (λ (ys : List Y) later others up2 same2 all.
    extends-done others later (AreBuilt P (suc (length xs))) (y ∷ ys) (more_built y ys now later values others all.0 all.1 p all.2))))
  where
    more_built : (y : Y) (ys : List Y) (now later : ℕ) (values others : ℕ → Bool) → now ≤ later → AreSame others values now → P 0 now values y
        → AreBuilt (λ k. P (suc k)) (length xs) later others ys → AreBuilt P (suc (length xs)) later others (y ∷ ys)
    more_built y ys now later values others le same p built = record { as_long = ap suc built.as_long; place = place }
      where
        place : (k : ℕ) (e : Y) → k < suc (length xs) → P k later others (get_or (y ∷ ys) k e)
        place zero e lt = stable 0 now later values others y le same p
        place (suc k) e lt = built.place k e (omega arith)

-- a variable of its own can have any value
pub extends-fresh : (before : ℕ → Bool) (var : ℕ) (bit : Bool)
    → Extends before var (fresh false) (λ (now : ℕ) (values : ℕ → Bool) (s : Signal). IsBelow now s × (value values s ≡ bit))
extends-fresh before var bit = record {
  values = with_bit before var (not bit);
  same = λ v lt. with_bit_elsewhere before var (not bit) v (λ e. omega (arith, lt, e));
  holds = (tt, tt);
  reads = (tt, tt);
  result = (let l : var < var + 1 = omega arith in l, ap not (with_bit_here before var (not bit)) ∙ twice bit);
}
  where
    twice : (b : Bool) → not (not b) ≡ b
    twice true = refl
    twice false = refl

-- a demand that holds already
pub extends-demanded : (before : ℕ → Bool) (var : ℕ) (P : ℕ → (ℕ → Bool) → Unit {0} → Type 0) (signals : List Signal)
    → AllByRecursion (IsBelow var) signals → has_true before signals ≡ true → P var before tt → Extends before var (demanded signals) P
extends-demanded before var P signals low e p = record {
  values = before;
  same = λ v lt. refl;
  holds = (cc, tt);
  reads = (low, tt);
  result = p;
}

-- ---- steps that are evaluated

pub extends-low : {X : Type 0} → EvaluationLaw → (Q : Step → Type 0) (before : ℕ → Bool) (var : ℕ) (build : Build X) (P : ℕ → X → Type 0) → Low Q var build P
    → ((values : ℕ → Bool) → AreSame values before var → AreDefined values var (build var).steps → AllHold values var (build var).steps)
    → Extends before var build (λ now values x. P now x)
extends-low law Q before var build P low demands =
    let one = law before var (build var).steps low.reads in
    record {
      values = one.values;
      same = one.is_evaluation.before;
      holds = demands one.values one.is_evaluation.before one.is_evaluation.defined;
      reads = low.reads;
      result = low.result;
    }

-- steps that ask nothing
abbrev pub AsksNothing : Step → Type 0
AsksNothing input = Unit {0}
AsksNothing (or_and_gate a p b) = Unit {0}
AsksNothing (xor_and_gate a p b) = Unit {0}
AsksNothing (demand signals) = ⊥

defined_step_holds : (values : ℕ → Bool) (var : ℕ) (step : Step) → AsksNothing step → IsDefined values var step → Holds values var step
defined_step_holds values var input k h = tt
defined_step_holds values var (or_and_gate a p b) k h = h
defined_step_holds values var (xor_and_gate a p b) k h = h
defined_step_holds values var (demand signals) k h = absurd k

defined_hold : (values : ℕ → Bool) (var : ℕ) (steps : List Step) → AllByRecursion AsksNothing steps → AreDefined values var steps → AllHold values var steps
defined_hold values var [] k h = tt
defined_hold values var (step ∷ steps) k h = (defined_step_holds values var step k.0 h.0, defined_hold values (next_variable var step) steps k.1 h.1)

pub extends-free : {X : Type 0} → EvaluationLaw → (before : ℕ → Bool) (var : ℕ) (build : Build X) (P : ℕ → X → Type 0) → Low AsksNothing var build P
    → Extends before var build (λ now values x. P now x)
extends-free law before var build P low =
    extends-low law AsksNothing before var build P low (λ values same defined. defined_hold values var (build var).steps low.kinds defined)
