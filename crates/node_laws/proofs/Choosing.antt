-- Signals that tell a choice tell one of the numbers that they were made for.
use Rattle.std.proofs.Common.{◌≡◌, ℕ, ◌<◌, ◌^◌, Bool, true, false, not, cond, List, map, length, get_or, slice_set, refl, sym, ap, ◌∙◌, subst, arith, inl, inr}
use Rattle.std.proofs.lemmas.List.{length-set}
use Rattle.std.proofs.lemmas.Bool.{cases_Bool, or_from}
use Rattle.coco_model.specs.Goals.{is_among}
use Rattle.circuit_clauses.specs.declared.signal.Signal.{Signal}
use Rattle.circuit_clauses.specs.Signals.{value, negated}
use Rattle.circuit_clauses.specs.Meanings.{has_true}
use Rattle.circuit_clauses.proofs.Gating.{value-negated}
use Rattle.clause_builds.specs.Builds.{done, ◌>>=◌}
use Rattle.clause_builds.specs.Rows.{signal_at}
use Rattle.node_clauses.specs.Choices.{four_places, set_numbers, has_place}
use Rattle.node_clauses.specs.Selectors.{known_or_fresh, known_place, add_place, add_places, differs_at, differs, differs_unless, others_differ, selectors, no_places}
use Rattle.node_clauses.proofs.ChoiceLemmas.{set_at}
use Rattle.node_clauses.specs.Chosen.{chosen_number}
use Rattle.node_laws.proofs.Meant.{Means, means-done, means-bind, means-demanded, through_means, through_each}
use Rattle.node_laws.proofs.Numbers.{place_chosen, chosen-below}

-- ---- four signals

IsFour : List Signal → Type 0
IsFour selected = length selected ≡ 4

place_means : (values : ℕ → Bool) (numbers : List ℕ) (place : ℕ) (selected : List Signal) → IsFour selected
    → Means values (add_place numbers place selected) IsFour
unfolding IsFour
place_means values numbers place selected four =
    means-bind values IsFour (λ (s : Signal). Unit {0}) (known_or_fresh (known_place numbers selected place))
    (λ (s : Signal). done (slice_set selected place s)) (λ var h. tt)
    (λ (s : Signal) u. means-done values IsFour (slice_set selected place s) (length-set selected place s ∙ four))

places_mean : (values : ℕ → Bool) (numbers : List ℕ) → Means values (add_places numbers no_places) IsFour
unfolding IsFour
places_mean values numbers = through_means values IsFour (add_place numbers) (place_means values numbers) four_places no_places refl

-- ---- no other number

abbrev IsOther : (ℕ → Bool) → List ℕ → List Signal → ℕ → Type 0
IsOther values numbers selected m = is_among numbers m ≡ false → has_true values (map (differs_at selected m) four_places) ≡ true

unless_means : (values : ℕ → Bool) (numbers : List ℕ) (selected : List Signal) (m : ℕ) (all : Unit {0})
    → Means values (differs_unless numbers selected m all) (λ (t : Unit {0}). IsOther values numbers selected m)
unless_means values numbers selected m all =
    by_test (is_among numbers m)
  where
    by_test : (b : Bool) → Means values (cond b (done tt) (differs selected m))
        (λ (t : Unit {0}). b ≡ false → has_true values (map (differs_at selected m) four_places) ≡ true)
    by_test true = λ var h e. absurd (cc)
    by_test false = λ var h e. means-demanded values (map (differs_at selected m) four_places) var h

at_test : (values : ℕ → Bool) (has : Bool) (s : Signal) → has ≡ value values s → value values (cond has (negated s) s) ≡ false
at_test values true s e = value-negated values s ∙ ap not (sym e)
at_test values false s e = sym e

-- a selection does not differ from its own number
own_number : (values : ℕ → Bool) (selected : List Signal) → length selected ≡ 4
    → has_true values (map (differs_at selected (chosen_number values selected)) four_places) ≡ false
own_number values selected four =
    or_from _ _ (at 0 (omega arith)) (or_from _ _ (at 1 (omega arith)) (or_from _ _ (at 2 (omega arith)) (or_from _ _ (at 3 (omega arith)) refl)))
  where
    at : (p : ℕ) → p < 4 → value values (differs_at selected (chosen_number values selected) p) ≡ false
    at p lt = at_test values (has_place p (chosen_number values selected)) (signal_at selected p) (place_chosen values selected p four lt)

-- signals tell a number of some
pub record Picks (values : ℕ → Bool) (numbers : List ℕ) (selected : List Signal) : Type 0 where
  pub four : length selected ≡ 4
  pub among : is_among numbers (chosen_number values selected) ≡ true

picked : (values : ℕ → Bool) (numbers : List ℕ) (selected : List Signal) → length selected ≡ 4
    → ((k : ℕ) → k < 16 → IsOther values numbers selected (get_or set_numbers k 0)) → Picks values numbers selected
picked values numbers selected four others = record {
  four = four;
  among = elim (cases_Bool (is_among numbers (chosen_number values selected))) [
    | inl there ↦ there
    | inr missing ↦ let n = chosen_number values selected in
        let low : n < 16 = subst (λ k. n < 2 ^ k) four (chosen-below values selected) in
        let f = subst (IsOther values numbers selected) (set_at n 0 low) (others n low) missing in
        let g = own_number values selected four in cc
  ];
}

pub means-selectors : (values : ℕ → Bool) (numbers : List ℕ) → Means values (selectors numbers) (Picks values numbers)
unfolding IsFour
means-selectors values numbers =
    means-bind values (Picks values numbers) IsFour (add_places numbers no_places) (λ (selected : List Signal). others_differ numbers selected >>= (λ all. done selected))
    (places_mean values numbers)
    (λ (selected : List Signal) (four : length selected ≡ 4).
    means-bind values (Picks values numbers) (λ (t : Unit {0}). (k : ℕ) → k < length set_numbers → IsOther values numbers selected (get_or set_numbers k 0))
    (others_differ numbers selected) (λ all. done selected)
    (through_each values (IsOther values numbers selected) (differs_unless numbers selected) (unless_means values numbers selected) set_numbers tt 0)
    (λ (t : Unit {0}) others. means-done values (Picks values numbers) selected (picked values numbers selected four others)))
