-- What the sum of two tallies says.
use Rattle.std.proofs.Common.{◌≡◌, ℕ, zero, suc, ◌+◌, ◌-◌, ◌<◌, ◌≤◌, min, Bool, false, true, not, ◌&&◌, ◌||◌, ltb, leb, List, [], ◌∷◌, length, get_or, Option, Some, None, refl, sym, ap, ◌∙◌, inl, inr, arith, ◌↔◌}
use Rattle.std.specs.List.{list_any}
use Rattle.std.proofs.Math.ListN.{get_or-eq_default}
use Rattle.std.proofs.lemmas.Bool.{cases_lt, lt-leb, and_from, and_parts}
use Rattle.std.proofs.lemmas.Bool.Decides.{nat_tests}
use Rattle.circuit_clauses.specs.declared.signal.Signal.{Signal}
use Rattle.circuit_clauses.specs.declared.signal.Signal.TheVariants.{Constant}
use Rattle.circuit_clauses.specs.Signals.{value, negated}
use Rattle.circuit_clauses.specs.Steps.{variables_after}
use Rattle.circuit_clauses.specs.Steps.Step.{or_and_gate}
use Rattle.circuit_clauses.specs.Gates.{made_by, known_or_and, or_and}
use Rattle.circuit_clauses.specs.Meanings.{AreDefined, AllHold, or_and_value}
use Rattle.circuit_clauses.proofs.Gating.{value-negated}
use Rattle.circuit_clauses.proofs.Sequences.{defined_front, defined_rest, hold_rest, hold-append}
use Rattle.tally_clauses.specs.Tallies.{at_least, sum_of, place, places, bounds, merge}
use Rattle.tally_clauses.specs.Counts.{Tells}
use Rattle.circuit_clauses.specs.Laws.{GatesLaw}

-- where the ones count m and the others n, what the terms from a count on say: for some i from 1 on at least i of the
-- ones and at least count - i of the others
abbrev pub some_term : ℕ → ℕ → ℕ → Bool
some_term m n count = (ltb 0 count && ltb 0 m) && leb count (n + m)

-- the signals of a list tell, from the first on, whether at least 1, 2 and so on are true
abbrev pub TellsFrom : (ℕ → Bool) → List Signal → ℕ → Type 0
TellsFrom values tally n = (k : ℕ) (d : Signal) → k < length tally → value values (get_or tally k d) ≡ ltb k n

-- "at least so many" says so up to the limit
pub at_least_says : (values : ℕ → Bool) (limit : ℕ) (tally : List Signal) (n s count : ℕ) → Tells limit values tally n s → count ≤ limit → value values (at_least tally count) ≡ leb count n
at_least_says values limit tally n s zero h le = grind (arith, nat_tests)
at_least_says values limit tally n s (suc k) h le =
    let places : length tally ≡ min limit s = h.places in
    let most : n ≤ s = h.most in
    elim (cases_lt k (length tally)) [
      | inl lt ↦
          let e : value values (get_or tally k (Constant false)) ≡ ltb k n = h.each k (Constant false) lt in
          e ∙ same_test k n
      | inr ge ↦
          let past : get_or tally k (Constant false) ≡ Constant false = get_or-eq_default tally (Constant false) ge in
          let less : n < suc k = omega arith in
          ap (value values) past ∙ sym (lt-leb (suc k) n less)
    ]
  where
    same_test : (k n : ℕ) → ltb k n ≡ leb (suc k) n
    same_test k n = grind (arith, nat_tests)

-- one term more
term_more : (m n count : ℕ) (sum : Bool) → ((sum || (ltb 0 m && leb count n)) || some_term (m - 1) n count) ≡ (sum || some_term m n (suc count))
term_more m n count true = refl
term_more m n count false = grind (arith, nat_tests)

no_term : (m n : ℕ) (sum : Bool) → (sum || some_term m n 0) ≡ sum
no_term m n true = refl
no_term m n false = refl

-- the sum of the terms says that there is one
pub sum_says : (g : GatesLaw) (values : ℕ → Bool) (limit var : ℕ) (sum : Signal) (ones others : List Signal) (m n s count : ℕ) → TellsFrom values ones m → Tells limit values others n s → count ≤ limit + 1 → min count m ≤ length ones
    → AreDefined values var (sum_of var sum ones others count).steps
    → value values (sum_of var sum ones others count).signal ≡ (value values sum || some_term m n count)
sum_says g values limit var sum [] others m n s count ho ht le few h =
    let none : some_term m n count ≡ false = grind (arith, nat_tests) in
    sym (ap (λ b. value values sum || b) none ∙ or_nothing (value values sum))
  where
    or_nothing : (x : Bool) → (x || false) ≡ x
    or_nothing true = refl
    or_nothing false = refl
sum_says g values limit var sum (one ∷ ones) others m n s zero ho ht le few h = sym (no_term m n (value values sum))
sum_says g values limit var sum (one ∷ ones) others m n s (suc count) ho ht le few h =
    let first = or_and var sum one (at_least others count) in
    let rest = sum_of (variables_after var first.steps) first.signal ones others count in
    let fs : value values first.signal ≡ or_and_value values sum one (at_least others count) = (g values var sum one (at_least others count)).0 (defined_front values var first.steps rest.steps h) in
    let here : value values one ≡ ltb 0 m = ho 0 one (omega arith) in
    let there : value values (at_least others count) ≡ leb count n = at_least_says values limit others n s count ht (omega arith) in
    let fs' : value values first.signal ≡ (value values sum || (ltb 0 m && leb count n)) = fs ∙ (ap (λ b. value values sum || (b && value values (at_least others count))) here ∙ ap (λ b. value values sum || (ltb 0 m && b)) there) in
    let tail : TellsFrom values ones (m - 1) = λ k d lt. ho (suc k) d (omega arith) ∙ tail_test k m in
    let rs : value values rest.signal ≡ (value values first.signal || some_term (m - 1) n count) = sum_says g values limit (variables_after var first.steps) first.signal ones others (m - 1) n s count tail ht (omega arith) (omega arith) (defined_rest values var first.steps rest.steps h) in
    rs ∙ (ap (λ b. b || some_term (m - 1) n count) fs' ∙ term_more m n count (value values sum))
  where
    tail_test : (k m : ℕ) → ltb (suc k) m ≡ ltb k (m - 1)
    tail_test k m = grind (arith, nat_tests)

place_test : (m n done : ℕ) → (leb (done + 1) n || some_term m n (done + 1)) ≡ ltb done (m + n)
place_test m n done = grind (arith, nat_tests)

-- a place says that at least so many are true of both
pub place_says : (g : GatesLaw) (values : ℕ → Bool) (limit var : ℕ) (ones others : List Signal) (m n s t done : ℕ) → Tells limit values ones m s → Tells limit values others n t → done < limit
    → AreDefined values var (place var ones others (done + 1)).steps
    → value values (place var ones others (done + 1)).signal ≡ ltb done (m + n)
place_says g values limit var ones others m n s t done ho ht lt h =
    let places : length ones ≡ min limit s = ho.places in
    let most : m ≤ s = ho.most in
    sum_says g values limit var (at_least others (done + 1)) ones others m n t (done + 1) ho.each ht (omega arith) (omega arith) h
    ∙ (ap (λ b. b || some_term m n (done + 1)) (at_least_says values limit others n t (done + 1) ht (omega arith)) ∙ place_test m n done)

pub length-places : (var : ℕ) (ones others : List Signal) (done left : ℕ) → length (places var ones others done left).tally ≡ left
length-places var ones others done zero = refl
length-places var ones others done (suc left) =
    let first = place var ones others (done + 1) in
    let rest = length-places (variables_after var first.steps) ones others (done + 1) left in
    omega arith

-- the places say so one after the other
pub places_say : (g : GatesLaw) (values : ℕ → Bool) (limit var : ℕ) (ones others : List Signal) (m n s t done left : ℕ) → Tells limit values ones m s → Tells limit values others n t → done + left ≤ limit
    → AreDefined values var (places var ones others done left).steps
    → (k : ℕ) (d : Signal) → k < left → value values (get_or (places var ones others done left).tally k d) ≡ ltb (done + k) (m + n)
places_say g values limit var ones others m n s t done zero ho ht le h k d lt = absurd (omega arith)
places_say g values limit var ones others m n s t done (suc left) ho ht le h zero d lt =
    let first = place var ones others (done + 1) in
    let rest = places (variables_after var first.steps) ones others (done + 1) left in
    let e : done + 0 ≡ done = omega arith in
    rw e (place_says g values limit var ones others m n s t done ho ht (omega arith) (defined_front values var first.steps rest.steps h))
places_say g values limit var ones others m n s t done (suc left) ho ht le h (suc k) d lt =
    let first = place var ones others (done + 1) in
    let rest = places (variables_after var first.steps) ones others (done + 1) left in
    let e : done + suc k ≡ (done + 1) + k = omega arith in
    rw e (places_say g values limit (variables_after var first.steps) ones others m n s t (done + 1) left ho ht (omega arith) (defined_rest values var first.steps rest.steps h) k d (omega arith))

-- the sum of two tallies counts what both count
pub merge_says : (g : GatesLaw) (values : ℕ → Bool) (limit var : ℕ) (ones others : List Signal) (m n s t : ℕ) → Tells limit values ones m s → Tells limit values others n t
    → AreDefined values var (merge limit var ones others).steps → Tells limit values (merge limit var ones others).tally (m + n) (s + t)
merge_says g values limit var ones [] m n s t ho ht h =
    let places : length ones ≡ min limit s = ho.places in
    let none : 0 ≡ min limit t = ht.places in
    let most : m ≤ s = ho.most in
    let more : n ≤ t = ht.most in
    record {
      places = omega arith;
      most = omega arith;
      each = λ k d lt. ho.each k d lt ∙ (let e : n ≡ 0 = omega arith in let f : m + n ≡ m = omega arith in rw f refl);
    }
merge_says g values limit var ones (other ∷ others) m n s t ho ht h =
    let count = min limit (length ones + length (other ∷ others)) in
    let made = places var ones (other ∷ others) 0 count in
    let places : length ones ≡ min limit s = ho.places in
    let more_places : length (other ∷ others) ≡ min limit t = ht.places in
    let most : m ≤ s = ho.most in
    let more : n ≤ t = ht.most in
    let len : length made.tally ≡ count = length-places var ones (other ∷ others) 0 count in
    record {
      places = omega arith;
      most = omega arith;
      each = λ k d lt. places_say g values limit var ones (other ∷ others) m n s t 0 count ho ht (omega arith) (defined_front values var made.steps (bounds ones (other ∷ others) limit) h) k d (omega arith) ∙ (let e : 0 + k ≡ k = omega arith in rw e refl);
    }

-- the gates of a sum hold where they are defined: there is no demand among them
or_and_hold : (values : ℕ → Bool) (var : ℕ) (o : Option Signal) (a p b : Signal) → AreDefined values var (made_by o var (or_and_gate a p b)).steps → AllHold values var (made_by o var (or_and_gate a p b)).steps
or_and_hold values var None a p b h = h
or_and_hold values var (Some s) a p b h = h

sum_hold : (values : ℕ → Bool) (var : ℕ) (sum : Signal) (ones others : List Signal) (count : ℕ) → AreDefined values var (sum_of var sum ones others count).steps → AllHold values var (sum_of var sum ones others count).steps
sum_hold values var sum [] others count h = tt
sum_hold values var sum (one ∷ ones) others zero h = tt
sum_hold values var sum (one ∷ ones) others (suc count) h =
    let first = or_and var sum one (at_least others count) in
    let rest = sum_of (variables_after var first.steps) first.signal ones others count in
    hold-append values var first.steps rest.steps
    (or_and_hold values var (known_or_and sum one (at_least others count)) sum one (at_least others count) (defined_front values var first.steps rest.steps h))
    (sum_hold values (variables_after var first.steps) first.signal ones others count (defined_rest values var first.steps rest.steps h))

places_hold : (values : ℕ → Bool) (var : ℕ) (ones others : List Signal) (done left : ℕ) → AreDefined values var (places var ones others done left).steps → AllHold values var (places var ones others done left).steps
places_hold values var ones others done zero h = tt
places_hold values var ones others done (suc left) h =
    let first = place var ones others (done + 1) in
    let rest = places (variables_after var first.steps) ones others (done + 1) left in
    hold-append values var first.steps rest.steps
    (sum_hold values var (at_least others (done + 1)) ones others (done + 1) (defined_front values var first.steps rest.steps h))
    (places_hold values (variables_after var first.steps) ones others (done + 1) left (defined_rest values var first.steps rest.steps h))

-- not more than the limit: none of the ones, or both together within it
abbrev pub within : ℕ → ℕ → ℕ → Bool
within m n limit = not (ltb 0 m) || leb (m + n) limit

within_more : (m n limit : ℕ) → ((not (ltb 0 m) || (not (leb (suc limit) n) || false)) && within (m - 1) n limit) ≡ within m n (suc limit)
within_more m n limit = grind (arith, nat_tests)

demand_says : (values : ℕ → Bool) (s t : Signal) (x y : Bool) → value values s ≡ x → value values t ≡ y → list_any (value values) (negated s ∷ negated t ∷ []) ≡ (not x || (not y || false))
demand_says values s t x y es et =
    let a : value values (negated s) ≡ not x = value-negated values s ∙ ap not es in
    let b : value values (negated t) ≡ not y = value-negated values t ∙ ap not et in
    rw (a, b) refl

-- the bounds hold exactly where the limit is not passed
pub bounds_say : (values : ℕ → Bool) (most var : ℕ) (ones others : List Signal) (m n t limit : ℕ) → TellsFrom values ones m → Tells most values others n t → limit ≤ most → m ≤ limit → m ≤ length ones
    → AllHold values var (bounds ones others limit) ↔ (within m n limit ≡ true)
bounds_say values most var [] others m n t limit ho ht le few long =
    (λ _. (let z : m ≡ 0 = omega arith in rw z refl), λ _. tt)
bounds_say values most var (one ∷ ones) others m n t zero ho ht le few long =
    (λ _. (let z : m ≡ 0 = omega arith in rw z refl), λ _. tt)
bounds_say values most var (one ∷ ones) others m n t (suc limit) ho ht le few long =
    let here : value values one ≡ ltb 0 m = ho 0 one (omega arith) in
    let there : value values (at_least others (suc limit)) ≡ leb (suc limit) n = at_least_says values most others n t (suc limit) ht le in
    let says : list_any (value values) (negated one ∷ negated (at_least others (suc limit)) ∷ []) ≡ (not (ltb 0 m) || (not (leb (suc limit) n) || false)) = demand_says values one (at_least others (suc limit)) (ltb 0 m) (leb (suc limit) n) here there in
    let tail : TellsFrom values ones (m - 1) = λ k d lt. ho (suc k) d (omega arith) ∙ tail_less k m in
    let rest = bounds_say values most var ones others (m - 1) n t limit tail ht (omega arith) (omega arith) (omega arith) in (
      λ h. sym (within_more m n limit) ∙ and_from (not (ltb 0 m) || (not (leb (suc limit) n) || false)) (within (m - 1) n limit) (sym says ∙ h.0) (rest.0 h.1),
      λ e. (let parts = and_parts (not (ltb 0 m) || (not (leb (suc limit) n) || false)) (within (m - 1) n limit) (within_more m n limit ∙ e) in (says ∙ parts.0, rest.1 parts.1)),
    )
  where
    tail_less : (k m : ℕ) → ltb (suc k) m ≡ ltb k (m - 1)
    tail_less k m = grind (arith, nat_tests)

within_means : (m n limit : ℕ) → n ≤ limit → within m n limit ≡ true → m + n ≤ limit
within_means m n limit le h = grind (arith, nat_tests)

means_within : (m n limit : ℕ) → m + n ≤ limit → within m n limit ≡ true
means_within m n limit le = grind (arith, nat_tests)

-- the steps of a sum of two tallies hold exactly where the limit is not passed
pub merge_holds : (values : ℕ → Bool) (limit var : ℕ) (ones others : List Signal) (m n s t : ℕ) → Tells limit values ones m s → Tells limit values others n t → m ≤ limit → n ≤ limit
    → AreDefined values var (merge limit var ones others).steps → AllHold values var (merge limit var ones others).steps ↔ (m + n ≤ limit)
merge_holds values limit var ones [] m n s t ho ht lm ln h =
    let none : 0 ≡ min limit t = ht.places in
    let more : n ≤ t = ht.most in
    (λ _. omega arith, λ _. tt)
merge_holds values limit var ones (other ∷ others) m n s t ho ht lm ln h =
    let made = places var ones (other ∷ others) 0 (min limit (length ones + length (other ∷ others))) in
    let ends = bounds ones (other ∷ others) limit in
    let places : length ones ≡ min limit s = ho.places in
    let most : m ≤ s = ho.most in
    let both = bounds_say values limit (variables_after var made.steps) ones (other ∷ others) m n t limit ho.each ht (omega arith) lm (omega arith) in (
      λ all. within_means m n limit ln (both.0 (hold_rest values var made.steps ends all)),
      λ le. hold-append values var made.steps ends (places_hold values var ones (other ∷ others) 0 (min limit (length ones + length (other ∷ others))) (defined_front values var made.steps ends h)) (both.1 (means_within m n limit le)),
    )
