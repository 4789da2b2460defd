-- The variables of labels are the first ones, in order; and what says that signals are the same.
use Rattle.std.proofs.Common.{◌≡◌, ℕ, zero, suc, ◌+◌, ◌<◌, ◌≤◌, ◌||◌, not, Bool, true, false, List, [], ◌∷◌, ◌++◌, length, get_or, refl, sym, ap, ◌∙◌, subst, arith}
use Rattle.std.specs.List.{range_with_len}
use Rattle.std.proofs.lemmas.Bool.{false≢true}
use Rattle.std.proofs.lemmas.List.FromFn.{length-range_with_len, get_or-range_with_len}
use Rattle.circuit_clauses.specs.declared.signal.Signal.{Signal}
use Rattle.circuit_clauses.specs.declared.signal.Signal.TheVariants.{Literal}
use Rattle.circuit_clauses.specs.Signals.{value, negated}
use Rattle.circuit_clauses.specs.Meanings.{AllHold, AllReadBelow, IsBelow, has_true}
use Rattle.circuit_clauses.specs.Steps.{variables_after}
use Rattle.circuit_clauses.proofs.Gating.{value-negated}
use Rattle.circuit_clauses.proofs.Sequences.{variables_after-append, variables_above}
use Rattle.clause_builds.specs.Builds.{Build, done, ◌>>=◌, each, through, fresh, demanded}
use Rattle.clause_builds.specs.Rows.{signal_at}
use Rattle.clause_builds.proofs.Lists.{each-nil, each-cons, through-nil, through-cons}
use Rattle.probe_encode.specs.Goals.{label_variables, same_signals, label_sum, label_sums}
use Rattle.node_laws.proofs.Meant.{means-demanded, through_each}
use Rattle.probe_laws.proofs.Lower.{negated_below, below_more}
use Rattle.formula_laws.proofs.Pieces.{hold_first, hold_next, hold_both, reads_both}

abbrev variable : ℕ → Signal
variable v = Literal (record { var = v; positive = true })

-- a variable for each label, from a variable on
pub record AreVariables (labels : List ℕ) (var : ℕ) : Type 0 where
  pub as_long : length (label_variables labels var).result ≡ length labels
  pub each : (i : ℕ) → i < length labels → signal_at (label_variables labels var).result i ≡ Literal (record { var = var + i; positive = true })
  pub next : variables_after var (label_variables labels var).steps ≡ var + length labels
  pub hold : (values : ℕ → Bool) → AllHold values var (label_variables labels var).steps
  pub reads : AllReadBelow var (label_variables labels var).steps

abbrev fresh_for : ℕ → Build Signal
fresh_for l = fresh true

record AreFrom (labels : List ℕ) (var : ℕ) (build : Build (List Signal)) : Type 0 where
  as_long : length (build var).result ≡ length labels
  each : (i : ℕ) → i < length labels → signal_at (build var).result i ≡ Literal (record { var = var + i; positive = true })
  next : variables_after var (build var).steps ≡ var + length labels
  hold : (values : ℕ → Bool) → AllHold values var (build var).steps
  reads : AllReadBelow var (build var).steps

are_from : (labels : List ℕ) (var : ℕ) → AreFrom labels var (each fresh_for labels)
unfolding ◌>>=◌ done
are_from [] var = subst (AreFrom [] var) (sym (each-nil fresh_for)) (record {
  as_long = refl;
  each = λ i lt. absurd (omega arith);
  next = omega arith;
  hold = λ values. tt;
  reads = tt;
})
are_from (l ∷ labels) var = subst (AreFrom (l ∷ labels) var) (sym (each-cons fresh_for l labels)) (go (are_from labels (var + 1)))
  where
    go : AreFrom labels (var + 1) (each fresh_for labels)
        → AreFrom (l ∷ labels) var (fresh_for l >>= (λ y. each fresh_for labels >>= (λ ys. done (y ∷ ys))))
    go rest = record {
      as_long = ap suc rest.as_long;
      each = at;
      next = over;
      hold = λ values. hold_both values var (fresh_for l) (λ y. each fresh_for labels >>= (λ ys. done (y ∷ ys))) (tt, tt)
          (hold_both values (var + 1) (each fresh_for labels) (λ ys. done (variable var ∷ ys)) (rest.hold values) tt);
      reads = reads_both var (fresh_for l) (λ y. each fresh_for labels >>= (λ ys. done (y ∷ ys))) (tt, tt)
          (reads_both (var + 1) (each fresh_for labels) (λ ys. done (variable var ∷ ys)) rest.reads tt);
    }
      where
        at : (i : ℕ) → i < length (l ∷ labels) → signal_at (variable var ∷ (each fresh_for labels (var + 1)).result) i ≡ Literal (record { var = var + i; positive = true })
        at zero lt = ap (λ n. Literal (record { var = n; positive = true })) (omega arith)
        at (suc i) lt = rest.each i (omega arith) ∙ ap (λ n. Literal (record { var = n; positive = true })) (omega arith)

        after_bind : variables_after (var + 1) ((each fresh_for labels (var + 1)).steps ++ []) ≡ var + length (l ∷ labels)
        after_bind = variables_after-append (var + 1) (each fresh_for labels (var + 1)).steps [] ∙ (rest.next ∙ omega arith)

        over : variables_after var ((fresh_for l >>= (λ y. each fresh_for labels >>= (λ ys. done (y ∷ ys)))) var).steps ≡ var + length (l ∷ labels)
        over = after_bind

pub are_variables : (labels : List ℕ) (var : ℕ) → AreVariables labels var
are_variables labels var =
    let from = are_from labels var in
    record { as_long = from.as_long; each = from.each; next = from.next; hold = from.hold; reads = from.reads }

-- ---- signals that are the same

or_false : (a : Bool) → (a || false) ≡ a
or_false true = refl
or_false false = refl

demand_tells : (values : ℕ → Bool) (var : ℕ) (one other : Signal)
    → AllHold values var (demanded (one ∷ other ∷ []) var).steps → (value values one || value values other) ≡ true
demand_tells values var one other h =
    ap (λ b. value values one || b) (sym (or_false (value values other))) ∙ means-demanded values (one ∷ other ∷ []) var h

demand_told : (values : ℕ → Bool) (var : ℕ) (one other : Signal)
    → (value values one || value values other) ≡ true → AllHold values var (demanded (one ∷ other ∷ []) var).steps
demand_told values var one other e =
    let f : has_true values (one ∷ other ∷ []) ≡ true = ap (λ b. value values one || b) (or_false (value values other)) ∙ e in
    (cc, tt)

same_by : (a b : Bool) → (not a || b) ≡ true → (a || not b) ≡ true → a ≡ b
same_by true true e f = refl
same_by true false e f = sym e
same_by false true e f = f
same_by false false e f = refl

by_same : (a b : Bool) → a ≡ b → ((not a || b) ≡ true) × ((a || not b) ≡ true)
by_same true true e = (refl, refl)
by_same true false e = absurd (false≢true (sym e))
by_same false true e = absurd (false≢true e)
by_same false false e = (refl, refl)

pub same_from : (values : ℕ → Bool) (var : ℕ) (one other : Signal) → AllHold values var (same_signals one other var).steps
    → value values one ≡ value values other
same_from values var one other h =
    let first = demand_tells values var (negated one) other (hold_first values var (demanded (negated one ∷ other ∷ [])) (λ all. demanded (one ∷ negated other ∷ [])) h) in
    let second = demand_tells values var one (negated other) (hold_next values var (demanded (negated one ∷ other ∷ [])) (λ all. demanded (one ∷ negated other ∷ [])) h) in
    same_by (value values one) (value values other)
    (ap (λ b. b || value values other) (sym (value-negated values one)) ∙ first)
    (ap (λ b. value values one || b) (sym (value-negated values other)) ∙ second)

pub same_to : (values : ℕ → Bool) (var : ℕ) (one other : Signal) → value values one ≡ value values other
    → AllHold values var (same_signals one other var).steps
same_to values var one other e =
    let both = by_same (value values one) (value values other) e in
    hold_both values var (demanded (negated one ∷ other ∷ [])) (λ all. demanded (one ∷ negated other ∷ []))
    (demand_told values var (negated one) other (ap (λ b. b || value values other) (value-negated values one) ∙ both.0))
    (demand_told values var one (negated other) (ap (λ b. value values one || b) (value-negated values other) ∙ both.1))

same_reads : (var : ℕ) (one other : Signal) → IsBelow var one → IsBelow var other → AllReadBelow var (same_signals one other var).steps
same_reads var one other h k =
    reads_both var (demanded (negated one ∷ other ∷ [])) (λ all. demanded (one ∷ negated other ∷ []))
    ((negated_below var one h, (k, tt)), tt) ((h, (negated_below var other k, tt)), tt)

-- ---- the sums of labels

abbrev SameAt : (ℕ → Bool) → List Signal → List Signal → ℕ → Type 0
SameAt values variables totals i = value values (signal_at variables i) ≡ value values (signal_at totals i)

sums_from : (values : ℕ → Bool) (variables totals : List Signal) (places : List ℕ) (state : Unit {0}) (var : ℕ)
    → AllHold values var (through (label_sum variables totals) places state var).steps
    → (k : ℕ) → k < length places → SameAt values variables totals (get_or places k 0)
sums_from values variables totals places state var h =
    through_each values (SameAt values variables totals) (label_sum variables totals)
    (λ i s v hold. same_from values v (signal_at variables i) (signal_at totals i) hold) places state 0 var h

nothing_holds : (values : ℕ → Bool) (var : ℕ) (s : Unit {0}) → AllHold values var (done s var).steps
unfolding done
nothing_holds values var s = tt

nothing_read : (var : ℕ) (s : Unit {0}) → AllReadBelow var (done s var).steps
unfolding done
nothing_read var s = tt

sums_to : (values : ℕ → Bool) (variables totals : List Signal) (places : List ℕ)
    → ((k : ℕ) → k < length places → SameAt values variables totals (get_or places k 0))
    → (state : Unit {0}) (var : ℕ) → AllHold values var (through (label_sum variables totals) places state var).steps
sums_to values variables totals [] same state var =
    subst (λ (b : Build (Unit {0})). AllHold values var (b var).steps) (sym (through-nil (label_sum variables totals) state)) (nothing_holds values var state)
sums_to values variables totals (i ∷ places) same state var =
    subst (λ (b : Build (Unit {0})). AllHold values var (b var).steps) (sym (through-cons (label_sum variables totals) i places state))
    (hold_both values var (label_sum variables totals i state) (through (label_sum variables totals) places)
    (same_to values var (signal_at variables i) (signal_at totals i) (same 0 (omega arith)))
    (sums_to values variables totals places (λ k lt. same (suc k) (omega arith)) (label_sum variables totals i state var).result (variables_after var (label_sum variables totals i state var).steps)))

sums_read : (variables totals : List Signal) (low : ℕ) → ((i : ℕ) → IsBelow low (signal_at variables i) × IsBelow low (signal_at totals i))
    → (places : List ℕ) (state : Unit {0}) (var : ℕ) → low ≤ var → AllReadBelow var (through (label_sum variables totals) places state var).steps
sums_read variables totals low below [] state var le =
    subst (λ (b : Build (Unit {0})). AllReadBelow var (b var).steps) (sym (through-nil (label_sum variables totals) state)) (nothing_read var state)
sums_read variables totals low below (i ∷ places) state var le =
    subst (λ (b : Build (Unit {0})). AllReadBelow var (b var).steps) (sym (through-cons (label_sum variables totals) i places state))
    (reads_both var (label_sum variables totals i state) (through (label_sum variables totals) places)
    (same_reads var (signal_at variables i) (signal_at totals i) (below_more low var (signal_at variables i) le (below i).0) (below_more low var (signal_at totals i) le (below i).1))
    (sums_read variables totals low below places (label_sum variables totals i state var).result (variables_after var (label_sum variables totals i state var).steps)
    (let up = variables_above var (label_sum variables totals i state var).steps in omega arith)))

place_at : (n i : ℕ) → i < n → get_or (range_with_len 0 n) i 0 ≡ i
place_at n i lt = get_or-range_with_len 0 n i 0 lt ∙ omega arith

pub totals_told : (values : ℕ → Bool) (variables totals : List Signal) (var : ℕ) → AllHold values var (label_sums variables totals var).steps
    → (i : ℕ) → i < length variables → SameAt values variables totals i
totals_told values variables totals var h i lt =
    subst (SameAt values variables totals) (place_at (length variables) i lt)
    (sums_from values variables totals (range_with_len 0 (length variables)) tt var h i (omega (arith, lt, length-range_with_len 0 (length variables))))

pub totals_hold : (values : ℕ → Bool) (variables totals : List Signal) (var : ℕ)
    → ((i : ℕ) → i < length variables → SameAt values variables totals i) → AllHold values var (label_sums variables totals var).steps
totals_hold values variables totals var same =
    sums_to values variables totals (range_with_len 0 (length variables)) at tt var
  where
    at : (k : ℕ) → k < length (range_with_len 0 (length variables)) → SameAt values variables totals (get_or (range_with_len 0 (length variables)) k 0)
    at k lt =
        let within : k < length variables = (let e = length-range_with_len 0 (length variables) in omega (arith, lt, e)) in
        subst (SameAt values variables totals) (sym (place_at (length variables) k within)) (same k within)

pub totals_read : (variables totals : List Signal) (var : ℕ) → ((i : ℕ) → IsBelow var (signal_at variables i) × IsBelow var (signal_at totals i))
    → AllReadBelow var (label_sums variables totals var).steps
totals_read variables totals var below = sums_read variables totals var below (range_with_len 0 (length variables)) tt var (omega arith)
