-- Each of the numbers that selectors were made for is told by some values.
use Rattle.std.proofs.Common.{◌≡◌, ℕ, zero, suc, ◌<◌, ◌≤◌, Bool, true, false, cond, not, nat_eq, List, [], ◌∷◌, map, length, slice_set, Option, Some, None, refl, sym, ap, ◌∙◌, subst, arith, inl, inr}
use Rattle.std.specs.Option.{option_or}
use Rattle.std.specs.Bool.{beq}
use Rattle.std.specs.List.{list_all, list_any, AllByRecursion}
use Rattle.std.proofs.lemmas.Bool.{cases_eq, and_parts, or_cases, or_left, or_right, or_parts, eqb-true, false_from_ne_true, true_from_ne_false}
use Rattle.std.proofs.lemmas.List.{length-set, get_or-set_same, get_or-set_other}
use Rattle.coco_model.specs.Goals.{is_among}
use Rattle.circuit_clauses.specs.declared.signal.Signal.{Signal}
use Rattle.circuit_clauses.specs.declared.signal.Signal.TheVariants.{Constant}
use Rattle.circuit_clauses.specs.Signals.{value, negated}
use Rattle.circuit_clauses.specs.Meanings.{IsBelow, has_true}
use Rattle.circuit_clauses.proofs.Gating.{value-negated}
use Rattle.circuit_clauses.proofs.Evaluating.{value_below}
use Rattle.clause_builds.specs.Builds.{done, ◌>>=◌}
use Rattle.clause_builds.specs.Rows.{signal_at}
use Rattle.node_clauses.specs.Choices.{four_places, set_numbers, has_place}
use Rattle.node_clauses.specs.Selectors.{is_literal, all_have, some_has, are_alike, are_opposite, twin_at, twin_before, known_place, known_or_fresh, add_place, add_places, differs_at, differs, differs_unless, others_differ, selectors, no_places}
use Rattle.node_clauses.proofs.ChoiceLemmas.{four_at, set_at}
use Rattle.node_laws.proofs.Meant.{value_at}
use Rattle.node_laws.proofs.Numbers.{number_told}
use Rattle.node_laws.proofs.Extending.{Extends, AreSame, extends-done, extends-bind, extends-through, extends-fresh, extends-demanded, RowBelow, row_more, row_set, negated_below}

-- ---- what is so of all numbers is so of one of them

pub all_at : (test : ℕ → Bool) (ns : List ℕ) (m : ℕ) → is_among ns m ≡ true → list_all test ns ≡ true → test m ≡ true
all_at test [] m among all = cc
all_at test (n ∷ ns) m among all =
    let both = and_parts (test n) (list_all test ns) all in
    elim (or_cases (nat_eq m n) (is_among ns m) among) [
      | inl here ↦ ap test (eqb-true m n here) ∙ both.0
      | inr later ↦ all_at test ns m later both.1
    ]

pub any_at : (test : ℕ → Bool) (ns : List ℕ) (m : ℕ) → is_among ns m ≡ true → test m ≡ true → list_any test ns ≡ true
any_at test [] m among holds = cc
any_at test (n ∷ ns) m among holds = elim (or_cases (nat_eq m n) (is_among ns m) among) [
  | inl here ↦ or_left (test n) (list_any test ns) (ap test (sym (eqb-true m n here)) ∙ holds)
  | inr later ↦ or_right (test n) (list_any test ns) (any_at test ns m later holds)
]

-- ---- the signals of the first places tell those of a number

pub record Told (number : ℕ) (k now : ℕ) (values : ℕ → Bool) (selected : List Signal) : Type 0 where
  pub four : length selected ≡ 4
  pub below : RowBelow now selected
  pub told : (p : ℕ) → p < k → value_at values selected p ≡ has_place p number

pub told_more : (number k now later : ℕ) (values others : ℕ → Bool) (selected : List Signal) → now ≤ later → AreSame others values now
    → Told number k now values selected → Told number k later others selected
told_more number k now later values others selected up same t = record {
  four = t.four;
  below = row_more now later selected up t.below;
  told = λ p lt. value_below others values now (signal_at selected p) (t.below p) same ∙ t.told p lt;
}

abbrev TellsPlace : (number place now : ℕ) → (ℕ → Bool) → Option Signal → Type 0
TellsPlace number place now values None = Unit {0}
TellsPlace number place now values (Some s) = IsBelow now s × (value values s ≡ has_place place number)

same_bit : (a b : Bool) → beq a b ≡ true → a ≡ b
same_bit true true e = refl
same_bit true false e = cc
same_bit false true e = cc
same_bit false false e = refl

other_bit : (a b : Bool) → not (beq a b) ≡ true → a ≡ not b
other_bit true true e = cc
other_bit true false e = refl
other_bit false true e = refl
other_bit false false e = cc

twin_tells : (numbers : List ℕ) (number place now : ℕ) (values : ℕ → Bool) (selected : List Signal) (q : ℕ) → is_among numbers number ≡ true
    → Told number place now values selected → q < place → TellsPlace number place now values (twin_at numbers selected place q)
twin_tells numbers number place now values selected q among t lt =
    go (is_literal (signal_at selected q)) (are_alike numbers place q) refl (are_opposite numbers place q) refl
  where
    go : (literal alike : Bool) → are_alike numbers place q ≡ alike → (opposite : Bool) → are_opposite numbers place q ≡ opposite
        → TellsPlace number place now values
        (cond literal (cond alike (Some (signal_at selected q)) (cond opposite (Some (negated (signal_at selected q))) None)) None)
    go false alike ea opposite eo = tt
    go true true ea opposite eo = (
      t.below q,
      t.told q lt ∙ sym (same_bit (has_place place number) (has_place q number)
          (all_at (λ n. beq (has_place place n) (has_place q n)) numbers number among ea)),
    )
    go true false ea true eo = (
      negated_below now (signal_at selected q) (t.below q),
      value-negated values (signal_at selected q) ∙ ap not (t.told q lt)
          ∙ sym (other_bit (has_place place number) (has_place q number) (all_at (λ n. not (beq (has_place place n) (has_place q n))) numbers number among eo)),
    )
    go true false ea false eo = tt

either_tells : (number place now : ℕ) (values : ℕ → Bool) (one other : Option Signal) → TellsPlace number place now values one → TellsPlace number place now values other
    → TellsPlace number place now values (option_or one other)
either_tells number place now values None other h k = k
either_tells number place now values (Some s) other h k = h

twins_tell : (numbers : List ℕ) (number place now : ℕ) (values : ℕ → Bool) (selected : List Signal) (q : ℕ) → is_among numbers number ≡ true
    → Told number place now values selected → q ≤ place → TellsPlace number place now values (twin_before numbers selected place q)
twins_tell numbers number place now values selected zero among t le = tt
twins_tell numbers number place now values selected (suc q) among t le =
    either_tells number place now values (twin_at numbers selected place q) (twin_before numbers selected place q)
    (twin_tells numbers number place now values selected q among t (omega arith)) (twins_tell numbers number place now values selected q among t (omega arith))

known_tells : (numbers : List ℕ) (number place now : ℕ) (values : ℕ → Bool) (selected : List Signal) → is_among numbers number ≡ true
    → Told number place now values selected → TellsPlace number place now values (known_place numbers selected place)
known_tells numbers number place now values selected among t = go (some_has numbers place) refl (all_have numbers place) refl
  where
    go : (some : Bool) → some_has numbers place ≡ some → (all : Bool) → all_have numbers place ≡ all
        → TellsPlace number place now values
        (cond some (cond all (Some (Constant true)) (twin_before numbers selected place place)) (Some (Constant false)))
    go false es all ea = (tt, sym (false_from_ne_true (has_place place number) (λ e. let f = any_at (has_place place) numbers number among e in cc)))
    go true es true ea = (tt, sym (all_at (has_place place) numbers number among ea))
    go true es false ea = twins_tell numbers number place now values selected place among t (omega arith)

fresh_tells : (number place now : ℕ) (values : ℕ → Bool) (known : Option Signal) → TellsPlace number place now values known
    → Extends values now (known_or_fresh known) (λ (later : ℕ) (others : ℕ → Bool) (s : Signal). IsBelow later s × (value others s ≡ has_place place number))
fresh_tells number place now values None h = extends-fresh values now (has_place place number)
fresh_tells number place now values (Some s) h =
    extends-done values now (λ (later : ℕ) (others : ℕ → Bool) (s : Signal). IsBelow later s × (value others s ≡ has_place place number)) s h

place_told : (number place later : ℕ) (others : ℕ → Bool) (selected : List Signal) (s : Signal) → place < 4
    → Told number place later others selected → IsBelow later s → value others s ≡ has_place place number
    → Told number (suc place) later others (slice_set selected place s)
place_told number place later others selected s lt t low e = record {
  four = length-set selected place s ∙ t.four;
  below = row_set later selected place s t.below low;
  told = λ p h. elim (cases_eq p place) [
    | inl same ↦ subst (λ k. value_at others (slice_set selected place s) k ≡ has_place k number) (sym same)
        (ap (value others) (get_or-set_same selected place s (Constant false) (let f = t.four in omega arith)) ∙ e)
    | inr apart ↦ ap (value others) (get_or-set_other selected place p s (Constant false) apart) ∙ t.told p (omega (arith, h, apart))
  ];
}

place_extends : (numbers : List ℕ) (number place now : ℕ) (values : ℕ → Bool) (selected : List Signal) → is_among numbers number ≡ true → place < 4
    → Told number place now values selected → Extends values now (add_place numbers place selected) (Told number (suc place))
place_extends numbers number place now values selected among lt t =
    extends-bind values now (Told number (suc place)) (λ (later : ℕ) (others : ℕ → Bool) (s : Signal). IsBelow later s × (value others s ≡ has_place place number))
    (known_or_fresh (known_place numbers selected place)) (λ (s : Signal). done (slice_set selected place s))
    (fresh_tells number place now values (known_place numbers selected place) (known_tells numbers number place now values selected among t))
    (λ (s : Signal) later others up same h. extends-done others later (Told number (suc place)) (slice_set selected place s)
    (place_told number place later others selected s lt (told_more number place now later values others selected up same t) h.0 h.1))

nothing_told : (number now : ℕ) (values : ℕ → Bool) → Told number 0 now values no_places
nothing_told number now values = record { four = refl; below = below; told = λ p lt. absurd (omega arith) }
  where
    below : RowBelow now no_places
    below zero = tt
    below (suc zero) = tt
    below (suc (suc zero)) = tt
    below (suc (suc (suc zero))) = tt
    below (suc (suc (suc (suc i)))) = tt

places_extend : (numbers : List ℕ) (number now : ℕ) (values : ℕ → Bool) → is_among numbers number ≡ true
    → Extends values now (add_places numbers no_places) (Told number 4)
places_extend numbers number now values among =
    extends-through (Told number) (add_place numbers) four_places 0
    (λ k selected later others lt t. subst (λ q. Extends others later (add_place numbers q selected) (Told number (suc k))) (sym (four_at k 0 lt))
    (place_extends numbers number k later others selected among lt t))
    values now no_places (nothing_told number now values)

-- ---- the demands hold

at_signal : (has bit : Bool) (values : ℕ → Bool) (s : Signal) → value values s ≡ bit → value values (cond has (negated s) s) ≡ false → has ≡ bit
at_signal true bit values s e f = true_is bit (value values s) e (sym (value-negated values s) ∙ f)
  where
    true_is : (bit b : Bool) → b ≡ bit → not b ≡ false → true ≡ bit
    true_is bit true e f = e
    true_is bit false e f = cc
at_signal false bit values s e f = sym f ∙ e

-- a number that some signals do not differ from is the one that they tell
not_different : (number other now : ℕ) (values : ℕ → Bool) (selected : List Signal) → Told number 4 now values selected → number < 16 → other < 16
    → has_true values (map (differs_at selected other) four_places) ≡ false → other ≡ number
not_different number other now values selected t low small e =
    let a = or_parts _ _ e in
    let b = or_parts _ _ a.1 in
    let c = or_parts _ _ b.1 in
    let d = or_parts _ _ c.1 in
    number_told other number small low (at 0 (omega arith) a.0) (at 1 (omega arith) b.0) (at 2 (omega arith) c.0) (at 3 (omega arith) d.0)
  where
    at : (p : ℕ) → p < 4 → value values (differs_at selected other p) ≡ false → has_place p other ≡ has_place p number
    at p lt f = at_signal (has_place p other) (has_place p number) values (signal_at selected p) (t.told p lt) f

differs_below : (now : ℕ) (selected : List Signal) (other : ℕ) → RowBelow now selected → AllByRecursion (IsBelow now) (map (differs_at selected other) four_places)
differs_below now selected other low = (at 0, (at 1, (at 2, (at 3, tt))))
  where
    by : (has : Bool) (s : Signal) → IsBelow now s → IsBelow now (cond has (negated s) s)
    by true s h = negated_below now s h
    by false s h = h

    at : (p : ℕ) → IsBelow now (differs_at selected other p)
    at p = by (has_place p other) (signal_at selected p) (low p)

abbrev StillTold : ℕ → List Signal → ℕ → ℕ → (ℕ → Bool) → Unit {0} → Type 0
StillTold number selected k now values all = Told number 4 now values selected

unless_extends : (numbers : List ℕ) (number other now : ℕ) (values : ℕ → Bool) (selected : List Signal) (all : Unit {0}) → is_among numbers number ≡ true
    → number < 16 → other < 16 → Told number 4 now values selected
    → Extends values now (differs_unless numbers selected other all) (StillTold number selected 0)
unless_extends numbers number other now values selected all among low small t = go (is_among numbers other) refl
  where
    go : (b : Bool) → is_among numbers other ≡ b → Extends values now (cond b (done tt) (differs selected other)) (StillTold number selected 0)
    go true e = extends-done values now (StillTold number selected 0) tt t
    go false e = extends-demanded values now (StillTold number selected 0) (map (differs_at selected other) four_places) (differs_below now selected other t.below)
        (true_from_ne_false (has_true values (map (differs_at selected other) four_places))
        (λ f. let same = ap (is_among numbers) (not_different number other now values selected t low small f) in cc)) t

others_extend : (numbers : List ℕ) (number now : ℕ) (values : ℕ → Bool) (selected : List Signal) → is_among numbers number ≡ true
    → number < 16 → Told number 4 now values selected
    → Extends values now (others_differ numbers selected) (StillTold number selected 16)
others_extend numbers number now values selected among low t =
    extends-through (StillTold number selected) (differs_unless numbers selected) set_numbers 0
    (λ k all later others lt s. subst (λ other. Extends others later (differs_unless numbers selected other all) (StillTold number selected (suc k))) (sym (set_at k 0 lt))
    (unless_extends numbers number k later others selected all among low lt s))
    values now tt t

pub extends-selectors : (numbers : List ℕ) (number now : ℕ) (values : ℕ → Bool) → is_among numbers number ≡ true → number < 16
    → Extends values now (selectors numbers) (Told number 4)
extends-selectors numbers number now values among low =
    extends-bind values now (Told number 4) (Told number 4) (add_places numbers no_places) (λ (selected : List Signal). others_differ numbers selected >>= (λ all. done selected))
    (places_extend numbers number now values among)
    (λ (selected : List Signal) later others up same t.
    extends-bind others later (Told number 4) (StillTold number selected 16) (others_differ numbers selected) (λ all. done selected)
    (others_extend numbers number later others selected among low t)
    (λ (all : Unit {0}) last mores up same s. extends-done mores last (Told number 4) selected s))
