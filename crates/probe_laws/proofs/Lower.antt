-- Builds whose steps read earlier variables alone.
use Rattle.std.proofs.Common.{ℕ, zero, suc, ◌+◌, ◌<◌, ◌≤◌, min, true, false, List, [], ◌∷◌, ◌++◌, length, slice_set, Option, Some, None, sym, subst, arith}
use Rattle.std.specs.List.{AllByRecursion}
use Rattle.circuit_clauses.specs.declared.signal.Signal.{Signal}
use Rattle.circuit_clauses.specs.declared.signal.Signal.TheVariants.{Constant, Literal}
use Rattle.circuit_clauses.specs.Signals.{negated}
use Rattle.circuit_clauses.specs.Steps.{Step, next_variable, variables_after}
use Rattle.circuit_clauses.specs.Steps.Step.{or_and_gate}
use Rattle.circuit_clauses.specs.Gates.{made_by, known_or, known_or_and}
use Rattle.circuit_clauses.specs.Meanings.{AllReadBelow, IsBelow}
use Rattle.circuit_clauses.proofs.Sequences.{variables_after-append, variables_above}
use Rattle.tally_clauses.specs.Tallies.{at_least, sum_of, place, places, bounds, merge, pair_up, levels, add_up}
use Rattle.clause_builds.specs.Builds.{Build, done, ◌>>=◌, through, or_gate, tally}
use Rattle.clause_builds.specs.Rows.{signal_at, or_into}
use Rattle.clause_builds.proofs.Lists.{through-nil, through-cons}

pub below_more : (var more : ℕ) (s : Signal) → var ≤ more → IsBelow var s → IsBelow more s
below_more var more (Constant bit) le h = tt
below_more var more (Literal lit) le h = let b : lit.var < var = h in omega (arith, le, b)

pub negated_below : (var : ℕ) (s : Signal) → IsBelow var s → IsBelow var (negated s)
negated_below var (Constant bit) h = tt
negated_below var (Literal lit) h = h

-- ---- rows of signals

abbrev pub RowBelow : ℕ → List Signal → Type 0
RowBelow var row = (i : ℕ) → IsBelow var (signal_at row i)

pub row_more : (var more : ℕ) (row : List Signal) → var ≤ more → RowBelow var row → RowBelow more row
row_more var more row le h i = below_more var more (signal_at row i) le (h i)

pub row_set : (var : ℕ) (row : List Signal) (place : ℕ) (s : Signal) → RowBelow var row → IsBelow var s → RowBelow var (slice_set row place s)
row_set var [] place s h b i = h i
row_set var (x ∷ xs) zero s h b zero = b
row_set var (x ∷ xs) zero s h b (suc i) = h (suc i)
row_set var (x ∷ xs) (suc place) s h b zero = h 0
row_set var (x ∷ xs) (suc place) s h b (suc i) = row_set var xs place s (λ j. h (suc j)) b i

pub row_cons : (var : ℕ) (s : Signal) (row : List Signal) → IsBelow var s → RowBelow var row → RowBelow var (s ∷ row)
row_cons var s row b h zero = b
row_cons var s row b h (suc i) = h i

pub row_nil : (var : ℕ) → RowBelow var []
row_nil var i = tt

pub row_push : (var : ℕ) (row : List Signal) (s : Signal) → RowBelow var row → IsBelow var s → RowBelow var (row ++ s ∷ [])
row_push var [] s h b = row_cons var s [] b (row_nil var)
row_push var (x ∷ xs) s h b = row_cons var x (xs ++ s ∷ []) (h 0) (row_push var xs s (λ i. h (suc i)) b)

-- ---- builds

-- the steps of a build read earlier variables alone and are of a kind, and its result has a property
pub record Low {X : Type 0} (Q : Step → Type 0) (var : ℕ) (build : Build X) (P : ℕ → X → Type 0) : Type 0 where
  pub reads : AllReadBelow var (build var).steps
  pub kinds : AllByRecursion Q (build var).steps
  pub result : P (variables_after var (build var).steps) (build var).result

pub reads-append : (var : ℕ) (steps more : List Step) → AllReadBelow var steps → AllReadBelow (variables_after var steps) more → AllReadBelow var (steps ++ more)
reads-append var [] more h k = k
reads-append var (step ∷ steps) more h k = (h.0, reads-append (next_variable var step) steps more h.1 k)

kinds-append : (Q : Step → Type 0) (steps more : List Step) → AllByRecursion Q steps → AllByRecursion Q more → AllByRecursion Q (steps ++ more)
kinds-append Q [] more h k = k
kinds-append Q (step ∷ steps) more h k = (h.0, kinds-append Q steps more h.1 k)

-- one build and then one from its result, with a result of both
abbrev both : {X Y Z : Type 0} → (X → Y → Z) → Build X → (X → Build Y) → Build Z
both f first next = λ var.
    let a = first var in
    let b = next a.result (variables_after var a.steps) in
    record { result = f a.result b.result; steps = a.steps ++ b.steps }

low-both : {X Y Z : Type 0} (Q : Step → Type 0) (var : ℕ) (P : ℕ → Z → Type 0) (R : ℕ → X → Type 0) (S : ℕ → Y → Type 0) (f : X → Y → Z) (first : Build X) (next : X → Build Y)
    → Low Q var first R → ((x : X) (now : ℕ) → var ≤ now → R now x → Low Q now (next x) S)
    → ((x : X) (y : Y) (now later : ℕ) → now ≤ later → R now x → S later y → P later (f x y)) → Low Q var (both f first next) P
low-both {X = X} {Y = Y} Q var P R S f first next one rest combine =
    go (rest (first var).result (variables_after var (first var).steps) (variables_above var (first var).steps) one.result)
  where
    go : Low Q (variables_after var (first var).steps) (next (first var).result) S → Low Q var (both f first next) P
    go other = record {
      reads = reads-append var (first var).steps (next (first var).result (variables_after var (first var).steps)).steps one.reads other.reads;
      kinds = kinds-append Q (first var).steps (next (first var).result (variables_after var (first var).steps)).steps one.kinds other.kinds;
      result = subst (λ k. P k (f (first var).result (next (first var).result (variables_after var (first var).steps)).result))
          (sym (variables_after-append var (first var).steps (next (first var).result (variables_after var (first var).steps)).steps))
          (combine (first var).result (next (first var).result (variables_after var (first var).steps)).result (variables_after var (first var).steps)
          (variables_after (variables_after var (first var).steps) (next (first var).result (variables_after var (first var).steps)).steps)
          (variables_above (variables_after var (first var).steps) (next (first var).result (variables_after var (first var).steps)).steps) one.result other.result);
    }

pub low-done : {X : Type 0} (Q : Step → Type 0) (var : ℕ) (P : ℕ → X → Type 0) (x : X) → P var x → Low Q var (done x) P
unfolding done
low-done Q var P x p = record { reads = tt; kinds = tt; result = p }

pub low-bind : {X Y : Type 0} (Q : Step → Type 0) (var : ℕ) (P : ℕ → Y → Type 0) (R : ℕ → X → Type 0) (first : Build X) (next : X → Build Y)
    → Low Q var first R → ((x : X) (now : ℕ) → var ≤ now → R now x → Low Q now (next x) P) → Low Q var (first >>= next) P
unfolding ◌>>=◌
low-bind {Y = Y} Q var P R first next one rest = low-both Q var P R P (λ x (y : Y). y) first next one rest (λ x y now later le r s. s)

-- what each build of a list keeps, from a variable on
pub low-through : {X S : Type 0} (Q : Step → Type 0) (var : ℕ) (P : ℕ → S → Type 0) (build : X → S → Build S)
    → ((x : X) (s : S) (now : ℕ) → var ≤ now → P now s → Low Q now (build x s) P) → (xs : List X) (now : ℕ) (s : S) → var ≤ now → P now s
    → Low Q now (through build xs s) P
low-through {S = S} Q var P build turn [] now s le p = subst (λ (b : Build S). Low Q now b P) (sym (through-nil build s)) (low-done Q now P s p)
low-through {S = S} Q var P build turn (x ∷ xs) now s le p =
    subst (λ (b : Build S). Low Q now b P) (sym (through-cons build x xs s))
    (low-bind Q now P P (build x s) (through build xs) (turn x s now le p)
    (λ (t : S) later up q. low-through Q var P build turn xs later t (omega arith) q))

-- ---- gates

abbrev KnownBelow : ℕ → Option Signal → Type 0
KnownBelow var None = Unit {0}
KnownBelow var (Some s) = IsBelow var s

or_below : (var : ℕ) (a b : Signal) → IsBelow var a → IsBelow var b → KnownBelow var (known_or a b)
or_below var (Constant true) b ha hb = tt
or_below var (Constant false) b ha hb = hb
or_below var (Literal a) (Constant true) ha hb = tt
or_below var (Literal a) (Constant false) ha hb = ha
or_below var (Literal a) (Literal b) ha hb = tt

or_and_below : (var : ℕ) (a p b : Signal) → IsBelow var a → IsBelow var p → IsBelow var b → KnownBelow var (known_or_and a p b)
or_and_below var a (Constant false) b ha hp hb = ha
or_and_below var a (Constant true) b ha hp hb = or_below var a b ha hb
or_and_below var a (Literal p) (Constant false) ha hp hb = ha
or_and_below var a (Literal p) (Constant true) ha hp hb = or_below var a (Literal p) ha hp
or_and_below var (Constant true) (Literal p) (Literal b) ha hp hb = tt
or_and_below var (Constant false) (Literal p) (Literal b) ha hp hb = tt
or_and_below var (Literal a) (Literal p) (Literal b) ha hp hb = tt

abbrev pub AllowsGates : (Step → Type 0) → Type 0
AllowsGates Q = (a p b : Signal) → Q (or_and_gate a p b)

pub low-or_gate : (Q : Step → Type 0) → AllowsGates Q → (var : ℕ) (a p b : Signal) → IsBelow var a → IsBelow var p → IsBelow var b → Low Q var (or_gate a p b) IsBelow
low-or_gate Q gate var a p b ha hp hb = go (known_or_and a p b) (or_and_below var a p b ha hp hb)
  where
    go : (known : Option Signal) → KnownBelow var known
        → Low Q var (λ now. record { result = (made_by known now (or_and_gate a p b)).signal; steps = (made_by known now (or_and_gate a p b)).steps }) IsBelow
    go (Some s) h = record { reads = tt; kinds = tt; result = h }
    go None h = record { reads = ((ha, hp, hb), tt); kinds = (gate a p b, tt); result = (let l : var < var + 1 = omega arith in l) }

pub low-or_into : (Q : Step → Type 0) → AllowsGates Q → (var : ℕ) (row : List Signal) (place : ℕ) (other : Signal) → RowBelow var row → IsBelow var other
    → Low Q var (or_into row place other) RowBelow
low-or_into Q gate var row place other h b =
    low-bind Q var RowBelow IsBelow (or_gate (signal_at row place) other (Constant true)) (λ (s : Signal). done (slice_set row place s))
    (low-or_gate Q gate var (signal_at row place) other (Constant true) (h place) b tt)
    (λ (s : Signal) now le low. low-done Q now RowBelow (slice_set row place s) (row_set now row place s (row_more var now row le h) low))

-- ---- tallies

abbrev Any : Step → Type 0
Any step = Unit {0}

any_gate : AllowsGates Any
any_gate a p b = tt

abbrev pub RowsBelow : ℕ → List (List Signal) → Type 0
RowsBelow var rows = AllByRecursion (RowBelow var) rows

pub rows_more : (var more : ℕ) (rows : List (List Signal)) → var ≤ more → RowsBelow var rows → RowsBelow more rows
rows_more var more [] le h = tt
rows_more var more (row ∷ rows) le h = (row_more var more row le h.0, rows_more var more rows le h.1)

least_below : (var : ℕ) (others : List Signal) (count : ℕ) → RowBelow var others → IsBelow var (at_least others count)
least_below var others zero h = tt
least_below var others (suc count) h = h count

low-sum_of : (var : ℕ) (sum : Signal) (ones others : List Signal) (count : ℕ) → IsBelow var sum → RowBelow var ones → RowBelow var others
    → Low Any var (λ now. record { result = (sum_of now sum ones others count).signal; steps = (sum_of now sum ones others count).steps }) IsBelow
low-sum_of var sum [] others count hs ho ht = record { reads = tt; kinds = tt; result = hs }
low-sum_of var sum (one ∷ ones) others zero hs ho ht = record { reads = tt; kinds = tt; result = hs }
low-sum_of var sum (one ∷ ones) others (suc count) hs ho ht =
    low-both Any var IsBelow IsBelow IsBelow (λ (x y : Signal). y) (or_gate sum one (at_least others count))
    (λ (s : Signal) now. record { result = (sum_of now s ones others count).signal; steps = (sum_of now s ones others count).steps })
    (low-or_gate Any any_gate var sum one (at_least others count) hs (ho 0) (least_below var others count ht))
    (λ (s : Signal) now le low. low-sum_of now s ones others count low (λ i. below_more var now (signal_at ones i) le (ho (suc i))) (row_more var now others le ht))
    (λ x y now later le r s. s)

low-places : (var : ℕ) (ones others : List Signal) (done left : ℕ) → RowBelow var ones → RowBelow var others
    → Low Any var (λ now. record { result = (places now ones others done left).tally; steps = (places now ones others done left).steps }) RowBelow
low-places var ones others done zero ho ht = record { reads = tt; kinds = tt; result = row_nil var }
low-places var ones others done (suc left) ho ht =
    low-both Any var RowBelow IsBelow RowBelow (λ (s : Signal) (rest : List Signal). s ∷ rest)
    (λ now. record { result = (place now ones others (done + 1)).signal; steps = (place now ones others (done + 1)).steps })
    (λ (s : Signal) now. record { result = (places now ones others (done + 1) left).tally; steps = (places now ones others (done + 1) left).steps })
    (low-sum_of var (at_least others (done + 1)) ones others (done + 1) (least_below var others (done + 1) ht) ho ht)
    (λ (s : Signal) now le low. low-places now ones others (done + 1) left (row_more var now ones le ho) (row_more var now others le ht))
    (λ s rest now later le low lows. row_cons later s rest (below_more now later s le low) lows)

low-bounds : (var : ℕ) (ones others : List Signal) (limit : ℕ) → RowBelow var ones → RowBelow var others
    → Low Any var (λ now. record { result = tt; steps = bounds ones others limit }) (λ now (u : Unit {0}). Unit {0})
low-bounds var [] others limit ho ht = record { reads = tt; kinds = tt; result = tt }
low-bounds var (one ∷ ones) others zero ho ht = record { reads = tt; kinds = tt; result = tt }
low-bounds var (one ∷ ones) others (suc limit) ho ht =
    let rest = low-bounds var ones others limit (λ i. ho (suc i)) ht in
    record {
      reads = ((negated_below var one (ho 0), (negated_below var (at_least others (suc limit)) (least_below var others (suc limit) ht), tt)), rest.reads);
      kinds = (tt, rest.kinds);
      result = tt;
    }

low-merge : (limit var : ℕ) (ones others : List Signal) → RowBelow var ones → RowBelow var others
    → Low Any var (λ now. record { result = (merge limit now ones others).tally; steps = (merge limit now ones others).steps }) RowBelow
low-merge limit var ones [] ho ht = record { reads = tt; kinds = tt; result = ho }
low-merge limit var ones (other ∷ others) ho ht =
    low-both Any var RowBelow RowBelow (λ now (u : Unit {0}). Unit {0}) (λ (t : List Signal) (u : Unit {0}). t)
    (λ now. record { result = (places now ones (other ∷ others) 0 (min limit (length ones + length (other ∷ others)))).tally; steps = (places now ones (other ∷ others) 0 (min limit (length ones + length (other ∷ others)))).steps })
    (λ (t : List Signal) now. record { result = tt; steps = bounds ones (other ∷ others) limit })
    (low-places var ones (other ∷ others) 0 (min limit (length ones + length (other ∷ others))) ho ht)
    (λ (t : List Signal) now le low. low-bounds now ones (other ∷ others) limit (row_more var now ones le ho) (row_more var now (other ∷ others) le ht))
    (λ t u now later le low none. row_more now later t le low)

low-pair_up : (limit var : ℕ) (parts : List (List Signal)) → RowsBelow var parts
    → Low Any var (λ now. record { result = (pair_up limit now parts).tallies; steps = (pair_up limit now parts).steps }) RowsBelow
low-pair_up limit var [] h = record { reads = tt; kinds = tt; result = tt }
low-pair_up limit var (one ∷ []) h = record { reads = tt; kinds = tt; result = h }
low-pair_up limit var (one ∷ other ∷ parts) h =
    low-both Any var RowsBelow RowBelow RowsBelow (λ (t : List Signal) (rest : List (List Signal)). t ∷ rest)
    (λ now. record { result = (merge limit now one other).tally; steps = (merge limit now one other).steps })
    (λ (t : List Signal) now. record { result = (pair_up limit now parts).tallies; steps = (pair_up limit now parts).steps })
    (low-merge limit var one other h.0 h.1.0)
    (λ (t : List Signal) now le low. low-pair_up limit now parts (rows_more var now parts le h.1.1))
    (λ t rest now later le low lows. (row_more now later t le low, lows))

low-levels : (count limit var : ℕ) (parts : List (List Signal)) → RowsBelow var parts
    → Low Any var (λ now. record { result = (levels count limit now parts).tallies; steps = (levels count limit now parts).steps }) RowsBelow
unfolding levels
low-levels zero limit var parts h = record { reads = tt; kinds = tt; result = h }
low-levels (suc count) limit var parts h =
    low-both Any var RowsBelow RowsBelow RowsBelow (λ (x y : List (List Signal)). y)
    (λ now. record { result = (pair_up limit now parts).tallies; steps = (pair_up limit now parts).steps })
    (λ (ts : List (List Signal)) now. record { result = (levels count limit now ts).tallies; steps = (levels count limit now ts).steps })
    (low-pair_up limit var parts h)
    (λ (ts : List (List Signal)) now le low. low-levels count limit now ts low)
    (λ x y now later le r s. s)

low-add_up : (limit var : ℕ) (sum : List Signal) (parts : List (List Signal)) → RowBelow var sum → RowsBelow var parts
    → Low Any var (λ now. record { result = (add_up limit now sum parts).tally; steps = (add_up limit now sum parts).steps }) RowBelow
low-add_up limit var sum [] hs h = record { reads = tt; kinds = tt; result = hs }
low-add_up limit var sum (part ∷ parts) hs h =
    low-both Any var RowBelow RowBelow RowBelow (λ (x y : List Signal). y)
    (λ now. record { result = (merge limit now sum part).tally; steps = (merge limit now sum part).steps })
    (λ (t : List Signal) now. record { result = (add_up limit now t parts).tally; steps = (add_up limit now t parts).steps })
    (low-merge limit var sum part hs h.0)
    (λ (t : List Signal) now le low. low-add_up limit now t parts low (rows_more var now parts le h.1))
    (λ x y now later le r s. s)

pub low-tally : (limit var : ℕ) (parts : List (List Signal)) → RowsBelow var parts → Low (λ step. Unit {0}) var (tally limit parts) RowBelow
low-tally limit var parts h =
    low-both Any var RowBelow RowsBelow RowBelow (λ (x : List (List Signal)) (y : List Signal). y)
    (λ now. record { result = (levels 32 limit now parts).tallies; steps = (levels 32 limit now parts).steps })
    (λ (ts : List (List Signal)) now. record { result = (add_up limit now [] ts).tally; steps = (add_up limit now [] ts).steps })
    (low-levels 32 limit var parts h)
    (λ (ts : List (List Signal)) now le low. low-add_up limit now [] ts (row_nil now) low)
    (λ x y now later le r s. s)
