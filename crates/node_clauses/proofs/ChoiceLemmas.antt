-- Choices as numbers and as sets of places.
use Rattle.std.proofs.Common.{◌≡◌, ℕ, zero, suc, ◌+◌, ◌<◌, ◌≤◌, ◌/◌, ◌%◌, ◌^◌, Bool, true, false, not, ◌&&◌, ◌||◌, nat_eq, List, [], ◌∷◌, ◌++◌, cond, length, get_or, arith, ap, sym, subst, ◌∙◌, inl, inr, ◌⊎◌, refl}
use Rattle.std.proofs.Math.Nat.{div-div-eq-div-mul}
use Rattle.std.proofs.lemmas.List.{get_or-take, get_or_past}
use Rattle.node_clauses.specs.Selectors.{some_has}
use Rattle.std.specs.List.{list_all, list_any, filter, range_with_len}
use Rattle.std.proofs.lemmas.List.Elements.{filter-append}
use Rattle.std.proofs.lemmas.List.Folds.{list_all_at}
use Rattle.std.proofs.lemmas.Bool.{cases_lt}
use Rattle.std.proofs.lemmas.List.FromFn.{get_or-range_with_len}
use Rattle.label_cone.proofs.NodeLemmas.{input_count-four}
use Rattle.coco_base.specs.declared.cell.Kind.{Kind}
use Rattle.coco_base.specs.declared.cell.Part.{Part}
use Rattle.coco_base.specs.declared.cell.Part.TheVariants.{Zero, One, Vary}
use Rattle.coco_model.specs.Cells.{input_count, input_places, subset_of_number, IsSubsetOf}
use Rattle.cell_table.proofs.Sums.{length-input_places}
use Rattle.node_clauses.specs.Choices.{has_place, has_varying_places, is_choice, choices, varies, varies_at_places, four_places, set_numbers}

pub length-subset : (count number : ℕ) → length (subset_of_number count number) ≡ count
length-subset zero number = refl
length-subset (suc count) number = ap suc (length-subset count (number / 2))

halves : (number place : ℕ) → number / 2 / 2 ^ place ≡ number / 2 ^ suc place
halves number place = div-div-eq-div-mul number 2 (2 ^ place) ∙ ap (λ k. number / k) (omega arith)

-- a set has the places of its number
pub place_of_number : (count number place : ℕ) → place < count → get_or (subset_of_number count number) place false ≡ has_place place number
place_of_number zero number place h = elim h [ ]
place_of_number (suc count) number zero h = let e : number ≡ number / 2 ^ 0 = omega arith in ap (λ n. nat_eq (n % 2) 1) e
place_of_number (suc count) number (suc place) h =
    place_of_number count (number / 2) place (omega arith) ∙ ap (λ n. nat_eq (n % 2) 1) (halves number place)

vary_from_test : (part : Part) → varies part ≡ true → part ≡ Vary
vary_from_test Zero e = cc
vary_from_test One e = cc
vary_from_test Vary e = refl

lacks_or : (has b : Bool) → has ≡ true → (not has || b) ≡ true → b ≡ true
lacks_or true b h e = e
lacks_or false b h e = cc

and_left : (a b : Bool) → (a && b) ≡ true → a ≡ true
and_left true b e = refl
and_left false b e = cc

and_right : (a b : Bool) → (a && b) ≡ true → b ≡ true
and_right true b e = e
and_right false b e = cc

both_cases : (b : Bool) → (b ≡ true) ⊎ (b ≡ false)
both_cases true = inl refl
both_cases false = inr refl

-- the places and the numbers of sets, by place
pub four_at : (q d : ℕ) → q < 4 → get_or four_places q d ≡ q
four_at zero d lt = refl
four_at (suc zero) d lt = refl
four_at (suc (suc zero)) d lt = refl
four_at (suc (suc (suc zero))) d lt = refl
four_at (suc (suc (suc (suc q)))) d lt = omega arith

pub set_at : (n d : ℕ) → n < 16 → get_or set_numbers n d ≡ n
set_at n d lt = let e : 0 + n ≡ n = omega arith in get_or-range_with_len 0 16 n d lt ∙ e

-- what holds at all four places holds at each
pub at_place : (test : ℕ → Bool) (q : ℕ) → q < 4 → list_all test four_places ≡ true → test q ≡ true
at_place test q lt e = elim (both_cases (test q)) [
  | inl holds ↦ holds
  | inr fails ↦ let f = list_all_at test four_places q 0 lt (ap test (four_at q 0 lt) ∙ fails) in cc
]

-- at a place that a set has, the part varies
pub varies_at : (parts : List Part) (number place : ℕ) → place < 4 → varies_at_places parts number ≡ true → has_place place number ≡ true → get_or parts place Zero ≡ Vary
varies_at parts number place p h e =
    vary_from_test (get_or parts place Zero) (lacks_or (has_place place number) (varies (get_or parts place Zero)) e
    (at_place (λ q. not (has_place q number) || varies (get_or parts q Zero)) place p h))

-- the set of a number with varying places is a subset of a gate's inputs
pub varying_subset : (kind : Kind) (parts : List Part) (number : ℕ) → length parts ≡ 4 → has_varying_places kind parts number ≡ true → IsSubsetOf (subset_of_number (input_count kind) number) (input_places kind parts)
varying_subset kind parts number long h = record {
  as_long = length-subset (input_count kind) number ∙ sym (length-input_places kind parts long);
  varies = at;
}
  where
    at : (place : ℕ) → get_or (subset_of_number (input_count kind) number) place false ≡ true → get_or (input_places kind parts) place Zero ≡ Vary
    at place e = elim (cases_lt place (input_count kind)) [
      | inl lt ↦ get_or-take (input_count kind) parts place Zero lt ∙
          varies_at parts number place (omega (arith, input_count-four kind, lt)) (and_right _ _ h) (sym (place_of_number (input_count kind) number place lt) ∙ e)
      | inr past ↦ let f = get_or_past (subset_of_number (input_count kind) number) place false (subst (λ n. n ≤ place) (sym (length-subset (input_count kind) number)) past) in cc
    ]

range_more : (a n : ℕ) → range_with_len a (suc n) ≡ range_with_len a n ++ (a + n) ∷ []
range_more a zero = let e : a ≡ a + 0 = omega arith in ap (λ k. k ∷ []) e
range_more a (suc n) =
    let e : a + 1 + n ≡ a + suc n = omega arith in
    ap (λ ks. a ∷ ks) (range_more (a + 1) n ∙ ap (λ k. range_with_len (a + 1) n ++ k ∷ []) e)

-- one number more
pub filter_more : (test : ℕ → Bool) (n : ℕ) → filter test (range_with_len 0 (n + 1)) ≡ filter test (range_with_len 0 n) ++ cond (test n) (n ∷ []) []
filter_more test n =
    let e : n + 1 ≡ suc n = omega arith in
    let z : 0 + n ≡ n = omega arith in
    ap (λ k. filter test (range_with_len 0 k)) e ∙ (ap (filter test) (range_more 0 n ∙ ap (λ k. range_with_len 0 n ++ k ∷ []) z)
    ∙ filter-append test (range_with_len 0 n) (n ∷ []))

record PassesBoth (p q : ℕ → Bool) : Type 0 where
  pub number : ℕ
  pub one : p number ≡ true
  pub other : q number ≡ true

one_more : (p q : ℕ → Bool) (x : ℕ) (rest : Bool) → (rest ≡ true → PassesBoth p q) → q x ≡ true → (p x || rest) ≡ true → PassesBoth p q
one_more p q x rest later h e = elim (both_cases (p x)) [
  | inl passes ↦ record { number = x; one = passes; other = h }
  | inr fails ↦ later (rw fails at e)
]

some_passes : (p q : ℕ → Bool) (xs : List ℕ) → list_any p (filter q xs) ≡ true → PassesBoth p q
some_passes p q [] e = cc
some_passes p q (x ∷ xs) e = elim (both_cases (q x)) [
  | inl passes ↦ one_more p q x (list_any p (filter q xs)) (some_passes p q xs) passes (rw passes at e)
  | inr fails ↦ some_passes p q xs (rw fails at e)
]

-- a place of some choice of a gate varies
pub chosen_varies : (kind : Kind) (parts : List Part) (place : ℕ) → place < 4 → some_has (choices kind parts) place ≡ true → get_or parts place Zero ≡ Vary
chosen_varies kind parts place lt e =
    let found = some_passes (has_place place) (is_choice kind parts) set_numbers e in
    varies_at parts found.number place lt (and_right _ _ (and_left _ _ found.other)) found.one
