-- One turn of each loop: what the first step and the rest make is what all make.
use Rattle.std.proofs.Common.{◌≡◌, ◌≢◌, ℕ, suc, ◌+◌, ◌-◌, ◌*◌, ◌<◌, ◌≤◌, min, false, List, [], ◌∷◌, ◌++◌, length, get_or, drop, eqb, refl, sym, ap, ◌∙◌, subst, inl, inr, arith, append_assoc, add-one}
use Rattle.std.proofs.lemmas.Bool.{cases_lt}
use Rattle.std.proofs.Math.Seq.{drop-cons}
use Rattle.std.proofs.lemmas.List.{append-nil, drop_all}
use Rattle.circuit_clauses.specs.declared.signal.Signal.{Signal}
use Rattle.circuit_clauses.specs.declared.signal.Signal.TheVariants.{Constant}
use Rattle.circuit_clauses.specs.Signals.{negated}
use Rattle.circuit_clauses.specs.Steps.{variables_after}
use Rattle.circuit_clauses.specs.Steps.Step.{demand}
use Rattle.circuit_clauses.specs.Gates.{Made, or_and}
use Rattle.circuit_clauses.specs.Formulas.{Formula, extended, Fits}
use Rattle.circuit_clauses.proofs.Sequences.{extended-append, extended-nil, fits_front, fits_rest}
use Rattle.tally_clauses.specs.Tallies.{MadeTally, at_least, sum_of, place, places, bounds, merge, pair_up, levels, add_up, tally_of}

pub next_item : {X : Type 0} (xs : List X) (i : ℕ) (d : X) → i < length xs → drop i xs ≡ get_or xs i d ∷ drop (i + 1) xs
next_item xs i d lt = rw add-one (drop-cons xs i d lt)

pub one_less : (count i : ℕ) → i < count → count - i ≡ suc (count - (i + 1))
one_less count i lt = omega arith

abbrev pub no_sum : Signal → Made
no_sum sum = record { signal = sum; steps = [] }

-- a turn of the sum
pub sum_turn : (f g : Formula) (sum next : Signal) (ones others : List Signal) (count i : ℕ) → i < length ones → i < count
    → g ≡ extended f (or_and f.vars sum (get_or ones i (Constant false)) (at_least others (count - (i + 1)))).steps
    → next ≡ (or_and f.vars sum (get_or ones i (Constant false)) (at_least others (count - (i + 1)))).signal
    → ((sum_of g.vars next (drop (i + 1) ones) others (count - (i + 1))).signal ≡ (sum_of f.vars sum (drop i ones) others (count - i)).signal)
    × (extended g (sum_of g.vars next (drop (i + 1) ones) others (count - (i + 1))).steps ≡ extended f (sum_of f.vars sum (drop i ones) others (count - i)).steps)
sum_turn f g sum next ones others count i lt lc eg es =
    let one = get_or ones i (Constant false) in
    let left = count - (i + 1) in
    let made = or_and f.vars sum one (at_least others left) in
    let rest = sum_of (variables_after f.vars made.steps) made.signal (drop (i + 1) ones) others left in
    let e1 : drop i ones ≡ one ∷ drop (i + 1) ones = next_item ones i (Constant false) lt in
    let e2 : count - i ≡ suc left = one_less count i lc in
    rw (eg, es, e1, e2) (refl, sym (extended-append f made.steps rest.steps))

pub sum_fits : (f : Formula) (sum : Signal) (ones others : List Signal) (count i : ℕ) → i < length ones → i < count
    → Fits (extended f (sum_of f.vars sum (drop i ones) others (count - i)).steps)
    → Fits (extended f (or_and f.vars sum (get_or ones i (Constant false)) (at_least others (count - (i + 1)))).steps)
sum_fits f sum ones others count i lt lc h =
    let one = get_or ones i (Constant false) in
    let left = count - (i + 1) in
    let made = or_and f.vars sum one (at_least others left) in
    let rest = sum_of (variables_after f.vars made.steps) made.signal (drop (i + 1) ones) others left in
    let e1 : drop i ones ≡ one ∷ drop (i + 1) ones = next_item ones i (Constant false) lt in
    let e2 : count - i ≡ suc left = one_less count i lc in
    fits_front f made.steps rest.steps (rw (e1, e2) at h)

sum_of_none : (var : ℕ) (sum : Signal) (ones others : List Signal) → sum_of var sum ones others 0 ≡ no_sum sum
sum_of_none var sum [] others = refl
sum_of_none var sum (one ∷ ones) others = refl

-- no turn is left
pub sum_ends : (var : ℕ) (sum : Signal) (ones others : List Signal) (count i : ℕ) → min (length ones) count ≤ i → sum_of var sum (drop i ones) others (count - i) ≡ no_sum sum
sum_ends var sum ones others count i le =
    elim (cases_lt i count) [
      | inl lt ↦
          let e : drop i ones ≡ [] = drop_all i ones (omega arith) in
          rw e refl
      | inr ge ↦
          let e : count - i ≡ 0 = omega arith in
          rw e (sum_of_none var sum (drop i ones) others)
    ]

pub sum_ended : (f : Formula) (sum : Signal) (ones others : List Signal) (count i : ℕ) (all : Signal) (formula : Formula) → min (length ones) count ≤ i
    → (sum_of f.vars sum (drop i ones) others (count - i)).signal ≡ all
    → extended f (sum_of f.vars sum (drop i ones) others (count - i)).steps ≡ formula
    → (sum ≡ all) × (f ≡ formula)
sum_ended f sum ones others count i all formula le es ef =
    let e : sum_of f.vars sum (drop i ones) others (count - i) ≡ no_sum sum = sum_ends f.vars sum ones others count i le in
    (sym (ap (λ (m : Made). m.signal) e) ∙ es, sym (extended-nil f) ∙ (sym (ap (λ (m : Made). extended f m.steps) e) ∙ ef))

-- a turn of the places
pub places_turn : (f g : Formula) (tally next : List Signal) (at : Signal) (ones others : List Signal) (count done : ℕ) → done < count
    → g ≡ extended f (place f.vars ones others (done + 1)).steps → at ≡ (place f.vars ones others (done + 1)).signal → next ≡ tally ++ at ∷ []
    → (next ++ (places g.vars ones others (done + 1) (count - (done + 1))).tally ≡ tally ++ (places f.vars ones others done (count - done)).tally)
    × (extended g (places g.vars ones others (done + 1) (count - (done + 1))).steps ≡ extended f (places f.vars ones others done (count - done)).steps)
places_turn f g tally next at ones others count done lc eg ea en =
    let left = count - (done + 1) in
    let made = place f.vars ones others (done + 1) in
    let rest = places (variables_after f.vars made.steps) ones others (done + 1) left in
    let e2 : count - done ≡ suc left = one_less count done lc in
    rw (en, eg, ea, e2) (append_assoc tally (made.signal ∷ []) rest.tally, sym (extended-append f made.steps rest.steps))

pub places_fits : (f : Formula) (ones others : List Signal) (count done : ℕ) → done < count
    → Fits (extended f (places f.vars ones others done (count - done)).steps)
    → Fits (extended f (place f.vars ones others (done + 1)).steps)
places_fits f ones others count done lc h =
    let left = count - (done + 1) in
    let made = place f.vars ones others (done + 1) in
    let rest = places (variables_after f.vars made.steps) ones others (done + 1) left in
    let e2 : count - done ≡ suc left = one_less count done lc in
    fits_front f made.steps rest.steps (rw e2 at h)

-- a turn of the bounds
pub bounds_turn : (f g : Formula) (s t : Signal) (ones others : List Signal) (limit i : ℕ) → i < length ones → i < limit
    → s ≡ negated (get_or ones i (Constant false)) → t ≡ negated (at_least others (limit - i)) → g ≡ extended f (demand (s ∷ t ∷ []) ∷ [])
    → extended g (bounds (drop (i + 1) ones) others (limit - (i + 1))) ≡ extended f (bounds (drop i ones) others (limit - i))
bounds_turn f g s t ones others limit i lt lc es et eg =
    let one = get_or ones i (Constant false) in
    let left = limit - (i + 1) in
    let e1 : drop i ones ≡ one ∷ drop (i + 1) ones = next_item ones i (Constant false) lt in
    let e2 : limit - i ≡ suc left = one_less limit i lc in
    rw (eg, es, et, e1, e2) (sym (extended-append f (demand (negated one ∷ negated (at_least others (suc left)) ∷ []) ∷ []) (bounds (drop (i + 1) ones) others left)))

pub bounds_fits : (f : Formula) (s t : Signal) (ones others : List Signal) (limit i : ℕ) → i < length ones → i < limit
    → s ≡ negated (get_or ones i (Constant false)) → t ≡ negated (at_least others (limit - i))
    → Fits (extended f (bounds (drop i ones) others (limit - i))) → Fits (extended f (demand (s ∷ t ∷ []) ∷ []))
bounds_fits f s t ones others limit i lt lc es et h =
    let one = get_or ones i (Constant false) in
    let left = limit - (i + 1) in
    let e1 : drop i ones ≡ one ∷ drop (i + 1) ones = next_item ones i (Constant false) lt in
    let e2 : limit - i ≡ suc left = one_less limit i lc in
    rw (es, et, e2) (fits_front f (demand (negated one ∷ negated (at_least others (suc left)) ∷ []) ∷ []) (bounds (drop (i + 1) ones) others left) (rw (e1, e2) at h))

bounds_none : (ones others : List Signal) → bounds ones others 0 ≡ []
bounds_none [] others = refl
bounds_none (one ∷ ones) others = refl

pub bounds_ended : (f formula : Formula) (ones others : List Signal) (limit i : ℕ) → min (length ones) limit ≤ i
    → extended f (bounds (drop i ones) others (limit - i)) ≡ formula → f ≡ formula
bounds_ended f formula ones others limit i le e =
    let none : bounds (drop i ones) others (limit - i) ≡ [] =
    elim (cases_lt i limit) [
      | inl lt ↦ (let d : drop i ones ≡ [] = drop_all i ones (omega arith) in rw d refl)
      | inr ge ↦ (let z : limit - i ≡ 0 = omega arith in rw z (bounds_none (drop i ones) others))
    ] in
    sym (extended-nil f) ∙ (sym (ap (extended f) none) ∙ e)

abbrev pub sum_of_both : ℕ → ℕ → List Signal → List Signal → MadeTally
sum_of_both limit var ones others =
    record {
      tally = (places var ones others 0 (min limit (length ones + length others))).tally;
      steps = (places var ones others 0 (min limit (length ones + length others))).steps ++ bounds ones others limit;
    }

merge_many : (limit var : ℕ) (ones others : List Signal) → others ≢ [] → merge limit var ones others ≡ sum_of_both limit var ones others
merge_many limit var ones [] ne = absurd (ne refl)
merge_many limit var ones (other ∷ others) ne = refl

pub merge_fits : (f : Formula) (limit : ℕ) (ones others : List Signal) (count : ℕ) → others ≢ [] → count ≡ min limit (length ones + length others)
    → Fits (extended f (merge limit f.vars ones others).steps)
    → Fits (extended f (places f.vars ones others 0 count).steps) × Fits (extended (extended f (places f.vars ones others 0 count).steps) (bounds ones others limit))
merge_fits f limit ones others count ne e h =
    let made = places f.vars ones others 0 (min limit (length ones + length others)) in
    let k : Fits (extended f (made.steps ++ bounds ones others limit)) = subst (λ (m : MadeTally). Fits (extended f m.steps)) (merge_many limit f.vars ones others ne) h in
    rw e (fits_front f made.steps (bounds ones others limit) k, fits_rest f made.steps (bounds ones others limit) k)

pub merge_made : (f g : Formula) (limit : ℕ) (ones others : List Signal) (count : ℕ) → others ≢ [] → count ≡ min limit (length ones + length others)
    → g ≡ extended (extended f (places f.vars ones others 0 count).steps) (bounds ones others limit)
    → ((places f.vars ones others 0 count).tally ≡ (merge limit f.vars ones others).tally) × (g ≡ extended f (merge limit f.vars ones others).steps)
merge_made f g limit ones others count ne e eg =
    let made = places f.vars ones others 0 (min limit (length ones + length others)) in
    let m : merge limit f.vars ones others ≡ sum_of_both limit f.vars ones others = merge_many limit f.vars ones others ne in
    let eg' : g ≡ extended (extended f made.steps) (bounds ones others limit) = rw e at eg in
    rw e (sym (ap (λ (x : MadeTally). x.tally) m), eg' ∙ (sym (extended-append f made.steps (bounds ones others limit)) ∙ sym (ap (λ (x : MadeTally). extended f x.steps) m)))

-- a turn of adding up
pub add_turn : (f g : Formula) (limit : ℕ) (sum next : List Signal) (parts : List (List Signal)) (i : ℕ) (part : List Signal) → i < length parts → part ≡ get_or parts i part
    → g ≡ extended f (merge limit f.vars sum part).steps → next ≡ (merge limit f.vars sum part).tally
    → ((add_up limit g.vars next (drop (i + 1) parts)).tally ≡ (add_up limit f.vars sum (drop i parts)).tally)
    × (extended g (add_up limit g.vars next (drop (i + 1) parts)).steps ≡ extended f (add_up limit f.vars sum (drop i parts)).steps)
add_turn f g limit sum next parts i part lt ep eg es =
    let made = merge limit f.vars sum part in
    let rest = add_up limit (variables_after f.vars made.steps) made.tally (drop (i + 1) parts) in
    let e1 : drop i parts ≡ part ∷ drop (i + 1) parts = next_item parts i part lt ∙ ap (λ (p : List Signal). p ∷ drop (i + 1) parts) (sym ep) in
    rw (eg, es, e1) (refl, sym (extended-append f made.steps rest.steps))

pub add_fits : (f : Formula) (limit : ℕ) (sum : List Signal) (parts : List (List Signal)) (i : ℕ) (part : List Signal) → i < length parts → part ≡ get_or parts i part
    → Fits (extended f (add_up limit f.vars sum (drop i parts)).steps) → Fits (extended f (merge limit f.vars sum part).steps)
add_fits f limit sum parts i part lt ep h =
    let made = merge limit f.vars sum part in
    let rest = add_up limit (variables_after f.vars made.steps) made.tally (drop (i + 1) parts) in
    let e1 : drop i parts ≡ part ∷ drop (i + 1) parts = next_item parts i part lt ∙ ap (λ (p : List Signal). p ∷ drop (i + 1) parts) (sym ep) in
    fits_front f made.steps rest.steps (rw e1 at h)

two_items : {X : Type 0} (xs : List X) (i : ℕ) (x y : X) → 2 * i + 1 < length xs → x ≡ get_or xs (2 * i) x → y ≡ get_or xs (2 * i + 1) y → drop (2 * i) xs ≡ x ∷ y ∷ drop (2 * (i + 1)) xs
two_items xs i x y lt ex ey =
    let n : (2 * i + 1) + 1 ≡ 2 * (i + 1) = omega arith in
    let a : drop (2 * i) xs ≡ x ∷ drop (2 * i + 1) xs = next_item xs (2 * i) x (omega arith) ∙ ap (λ z. z ∷ drop (2 * i + 1) xs) (sym ex) in
    let b : drop (2 * i + 1) xs ≡ y ∷ drop ((2 * i + 1) + 1) xs = next_item xs (2 * i + 1) y lt ∙ ap (λ z. z ∷ drop ((2 * i + 1) + 1) xs) (sym ey) in
    a ∙ ap (λ zs. x ∷ zs) (b ∙ ap (λ k. y ∷ drop k xs) n)

-- a turn of pairing up
pub pair_turn : (f g : Formula) (limit : ℕ) (tallies next : List (List Signal)) (sum : List Signal) (parts : List (List Signal)) (i : ℕ) (one other : List Signal)
    → 2 * i + 1 < length parts → one ≡ get_or parts (2 * i) one → other ≡ get_or parts (2 * i + 1) other
    → g ≡ extended f (merge limit f.vars one other).steps → sum ≡ (merge limit f.vars one other).tally → next ≡ tallies ++ sum ∷ []
    → (next ++ (pair_up limit g.vars (drop (2 * (i + 1)) parts)).tallies ≡ tallies ++ (pair_up limit f.vars (drop (2 * i) parts)).tallies)
    × (extended g (pair_up limit g.vars (drop (2 * (i + 1)) parts)).steps ≡ extended f (pair_up limit f.vars (drop (2 * i) parts)).steps)
pair_turn f g limit tallies next sum parts i one other lt eo et eg es en =
    let made = merge limit f.vars one other in
    let rest = pair_up limit (variables_after f.vars made.steps) (drop (2 * (i + 1)) parts) in
    let e1 : drop (2 * i) parts ≡ one ∷ other ∷ drop (2 * (i + 1)) parts = two_items parts i one other lt eo et in
    rw (en, eg, es, e1) (append_assoc tallies (made.tally ∷ []) rest.tallies, sym (extended-append f made.steps rest.steps))

pub pair_fits : (f : Formula) (limit : ℕ) (parts : List (List Signal)) (i : ℕ) (one other : List Signal)
    → 2 * i + 1 < length parts → one ≡ get_or parts (2 * i) one → other ≡ get_or parts (2 * i + 1) other
    → Fits (extended f (pair_up limit f.vars (drop (2 * i) parts)).steps) → Fits (extended f (merge limit f.vars one other).steps)
pair_fits f limit parts i one other lt eo et h =
    let made = merge limit f.vars one other in
    let rest = pair_up limit (variables_after f.vars made.steps) (drop (2 * (i + 1)) parts) in
    let e1 : drop (2 * i) parts ≡ one ∷ other ∷ drop (2 * (i + 1)) parts = two_items parts i one other lt eo et in
    fits_front f made.steps rest.steps (rw e1 at h)

-- after the last pair nothing is left, or one part
pub pairs_ended_even : (f formula : Formula) (limit : ℕ) (tallies all : List (List Signal)) (parts : List (List Signal)) (i : ℕ) → length parts ≤ 2 * i
    → tallies ++ (pair_up limit f.vars (drop (2 * i) parts)).tallies ≡ all → extended f (pair_up limit f.vars (drop (2 * i) parts)).steps ≡ formula
    → (tallies ≡ all) × (f ≡ formula)
pairs_ended_even f formula limit tallies all parts i le et ef =
    let e : drop (2 * i) parts ≡ [] = drop_all (2 * i) parts le in
    let et' : tallies ++ [] ≡ all = rw e at et in
    let ef' : extended f [] ≡ formula = rw e at ef in
    (sym (append-nil tallies) ∙ et', sym (extended-nil f) ∙ ef')

pub pairs_ended_odd : (f formula : Formula) (limit : ℕ) (tallies all : List (List Signal)) (parts : List (List Signal)) (i : ℕ) (last : List Signal) → length parts ≡ 2 * i + 1 → last ≡ get_or parts (2 * i) last
    → tallies ++ (pair_up limit f.vars (drop (2 * i) parts)).tallies ≡ all → extended f (pair_up limit f.vars (drop (2 * i) parts)).steps ≡ formula
    → (tallies ++ last ∷ [] ≡ all) × (f ≡ formula)
pairs_ended_odd f formula limit tallies all parts i last len el et ef =
    let none : drop (2 * i + 1) parts ≡ [] = drop_all (2 * i + 1) parts (omega arith) in
    let e : drop (2 * i) parts ≡ last ∷ [] = next_item parts (2 * i) last (omega arith) ∙ (ap (λ (x : List Signal). x ∷ drop (2 * i + 1) parts) (sym el) ∙ ap (λ (xs : List (List Signal)). last ∷ xs) none) in
    let et' : tallies ++ last ∷ [] ≡ all = rw e at et in
    let ef' : extended f [] ≡ formula = rw e at ef in
    (et', sym (extended-nil f) ∙ ef')

pub filled : {X : Type 0} (xs : List X) → false ≡ eqb (length xs) 0 → xs ≢ []
filled [] e = absurd (cc)
filled (x ∷ xs) e = λ q. absurd (cc)

-- a turn of the levels
pub levels_turn : (f g : Formula) (limit : ℕ) (parts next : List (List Signal)) (count i : ℕ) → i < count
    → g ≡ extended f (pair_up limit f.vars parts).steps → next ≡ (pair_up limit f.vars parts).tallies
    → ((levels (count - (i + 1)) limit g.vars next).tallies ≡ (levels (count - i) limit f.vars parts).tallies)
    × (extended g (levels (count - (i + 1)) limit g.vars next).steps ≡ extended f (levels (count - i) limit f.vars parts).steps)
unfolding levels
levels_turn f g limit parts next count i lc eg en =
    let left = count - (i + 1) in
    let made = pair_up limit f.vars parts in
    let rest = levels left limit (variables_after f.vars made.steps) made.tallies in
    let e2 : count - i ≡ suc left = one_less count i lc in
    rw (eg, en, e2) (refl, sym (extended-append f made.steps rest.steps))

pub levels_fits : (f : Formula) (limit : ℕ) (parts : List (List Signal)) (count i : ℕ) → i < count
    → Fits (extended f (levels (count - i) limit f.vars parts).steps) → Fits (extended f (pair_up limit f.vars parts).steps)
unfolding levels
levels_fits f limit parts count i lc h =
    let left = count - (i + 1) in
    let made = pair_up limit f.vars parts in
    let rest = levels left limit (variables_after f.vars made.steps) made.tallies in
    let e2 : count - i ≡ suc left = one_less count i lc in
    fits_front f made.steps rest.steps (rw e2 at h)

-- no level is left
pub levels_ended : (f formula : Formula) (limit : ℕ) (parts all : List (List Signal)) (count i : ℕ) → count ≤ i
    → (levels (count - i) limit f.vars parts).tallies ≡ all → extended f (levels (count - i) limit f.vars parts).steps ≡ formula
    → (parts ≡ all) × (f ≡ formula)
unfolding levels
levels_ended f formula limit parts all count i le et ef =
    let e : count - i ≡ 0 = omega arith in
    let et' : parts ≡ all = rw e at et in
    let ef' : extended f [] ≡ formula = rw e at ef in
    (et', sym (extended-nil f) ∙ ef')

-- what fits at the end fits below the top of the tree, and at it
pub tree_fits : (f : Formula) (limit : ℕ) (parts : List (List Signal)) → Fits (extended f (tally_of limit f.vars parts).steps) → Fits (extended f (levels 32 limit f.vars parts).steps)
tree_fits f limit parts h =
    let tree = levels 32 limit f.vars parts in
    fits_front f tree.steps (add_up limit (variables_after f.vars tree.steps) [] tree.tallies).steps h

pub top_fits : (f g : Formula) (limit : ℕ) (parts tallies : List (List Signal)) → tallies ≡ (levels 32 limit f.vars parts).tallies → g ≡ extended f (levels 32 limit f.vars parts).steps
    → Fits (extended f (tally_of limit f.vars parts).steps) → Fits (extended g (add_up limit g.vars [] tallies).steps)
top_fits f g limit parts tallies et eg h =
    let tree = levels 32 limit f.vars parts in
    rw (eg, et) (fits_rest f tree.steps (add_up limit (variables_after f.vars tree.steps) [] tree.tallies).steps h)

pub top_made : (f g k : Formula) (limit : ℕ) (parts tallies : List (List Signal)) (tally : List Signal) → tallies ≡ (levels 32 limit f.vars parts).tallies → g ≡ extended f (levels 32 limit f.vars parts).steps
    → tally ≡ (add_up limit g.vars [] tallies).tally → k ≡ extended g (add_up limit g.vars [] tallies).steps
    → (tally ≡ (tally_of limit f.vars parts).tally) × (k ≡ extended f (tally_of limit f.vars parts).steps)
top_made f g k limit parts tallies tally et eg es ek =
    let tree = levels 32 limit f.vars parts in
    let top = add_up limit (variables_after f.vars tree.steps) [] tree.tallies in
    let es' : tally ≡ top.tally = rw (eg, et) at es in
    let ek' : k ≡ extended (extended f tree.steps) top.steps = rw (eg, et) at ek in
    (es', ek' ∙ sym (extended-append f tree.steps top.steps))
