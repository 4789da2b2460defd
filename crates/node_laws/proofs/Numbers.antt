-- Numbers of choices: their places, those of a list of signals, and the first of some.
use Rattle.std.proofs.Common.{◌≡◌, ℕ, zero, suc, ◌+◌, ◌*◌, ◌<◌, ◌≤◌, ◌/◌, ◌%◌, ◌^◌, Bool, true, false, not, cond, ◌||◌, nat_eq, List, [], ◌∷◌, map, length, get_or, filter, refl, sym, ap, ◌∙◌, subst, arith, inl, inr, pos, pow_mono, pow-suc}
use Rattle.std.specs.List.{list_all, range_with_len}
use Rattle.coco_base.specs.declared.unrolled.Node.TheVariants.{Gate}
use Rattle.coco_model.specs.Matters.{IsLeastChoice}
use Rattle.circuit_clauses.specs.declared.signal.Signal.TheVariants.{Constant}
use Rattle.walsh_laws.specs.Unrolled.{LeastChoiceLaw, HasLeastChoice}
use Rattle.node_clauses.specs.Sums.{least_choice}
use Rattle.std.proofs.lemmas.Bool.{agree_below_at, or_left, or_right, cases_Bool, cases_lt, cases_eq, and_parts, and_from, or_cases, false_from_ne_true, lt-ltb, ltb-true, eqb-true, eq-eqb}
use Rattle.std.proofs.lemmas.Bool.Decides.{Decides-int_eq}
use Rattle.std.proofs.Math.Nat.{div-eq_of_lt}
use Rattle.std.proofs.lemmas.Nat.{div-mul-add, mod-mul-add}
use Rattle.std.proofs.lemmas.List.{get_or-take}
use Rattle.coco_base.specs.declared.cell.Kind.{Kind}
use Rattle.coco_base.specs.declared.cell.Part.{Part}
use Rattle.coco_base.specs.declared.cell.Part.TheVariants.{Zero, Vary}
use Rattle.coco_model.specs.Cells.{input_count, input_places, subset_of_number, signed_sum, Subset}
use Rattle.coco_model.specs.Nodes.{IsGateChoice}
use Rattle.coco_model.specs.Goals.{is_among}
use Rattle.label_cone.proofs.NodeLemmas.{input_count-four}
use Rattle.circuit_clauses.specs.declared.signal.Signal.{Signal}
use Rattle.circuit_clauses.specs.Signals.{value}
use Rattle.node_clauses.specs.Choices.{four_places, has_place, varies, is_choice, choices, set_numbers}
use Rattle.node_clauses.proofs.ChoiceLemmas.{place_of_number, varying_subset}
use Rattle.node_clauses.specs.Chosen.{chosen_number}
use Rattle.node_laws.proofs.Meant.{value_at}

-- ---- the places of a number

bit_below : (b : Bool) → cond b 1 0 < 2
bit_below true = omega arith
bit_below false = omega arith

bit_is : (b : Bool) → nat_eq (cond b 1 0) 1 ≡ b
bit_is true = refl
bit_is false = refl

-- a number with one place before its places
doubled : (b : Bool) (n : ℕ) → cond b 1 0 + 2 * n ≡ n * 2 + cond b 1 0
doubled b n = omega arith

half : (b : Bool) (n : ℕ) → (cond b 1 0 + 2 * n) / 2 ≡ n
half b n = ap (λ k. k / 2) (doubled b n) ∙ div-mul-add n 2 (cond b 1 0) (bit_below b)

odd : (b : Bool) (n : ℕ) → nat_eq ((cond b 1 0 + 2 * n) % 2) 1 ≡ b
odd b n = ap (λ k. nat_eq (k % 2) 1) (doubled b n) ∙ ap (λ k. nat_eq k 1) (mod-mul-add n 2 (cond b 1 0) (bit_below b)) ∙ bit_is b

pub subset-chosen : (values : ℕ → Bool) (selected : List Signal)
    → subset_of_number (length selected) (chosen_number values selected) ≡ map (value values) selected
subset-chosen values [] = refl
subset-chosen values (s ∷ ss) =
    let n = chosen_number values ss in
    ap (λ (b : Bool). b ∷ subset_of_number (length ss) ((cond (value values s) 1 0 + 2 * n) / 2)) (odd (value values s) n)
    ∙ ap (λ (k : ℕ). value values s ∷ subset_of_number (length ss) k) (half (value values s) n)
    ∙ ap (λ (bs : Subset). value values s ∷ bs) (subset-chosen values ss)

pub chosen-below : (values : ℕ → Bool) (selected : List Signal) → chosen_number values selected < 2 ^ length selected
chosen-below values [] = omega arith
chosen-below values (s ∷ ss) =
    rw (pow-suc 2 (length ss)) (let e = chosen-below values ss in let b = bit_below (value values s) in omega arith)

value_read : (values : ℕ → Bool) (selected : List Signal) (p : ℕ) → get_or (map (value values) selected) p false ≡ value_at values selected p
value_read values [] p = refl
value_read values (s ∷ ss) zero = refl
value_read values (s ∷ ss) (suc p) = value_read values ss p

-- a place of the number of four signals
pub place_chosen : (values : ℕ → Bool) (selected : List Signal) (p : ℕ) → length selected ≡ 4 → p < 4
    → has_place p (chosen_number values selected) ≡ value_at values selected p
place_chosen values selected p long lt =
    sym (place_of_number (length selected) (chosen_number values selected) p (subst (λ k. p < k) (sym long) lt))
    ∙ ap (λ (bs : Subset). get_or bs p false) (subset-chosen values selected) ∙ value_read values selected p

-- past the places of a small number there is none
pub no_place : (p k n : ℕ) → n < 2 ^ k → k ≤ p → has_place p n ≡ false
no_place p k n small le =
    let more : 2 ^ k ≤ 2 ^ p = pow_mono le in
    let none : n / 2 ^ p ≡ 0 = div-eq_of_lt (omega (arith, more, small)) in
    ap (λ m. nat_eq (m % 2) 1) none

-- ---- choices as numbers

lacks_from : (has b : Bool) → (has ≡ true → b ≡ true) → (not has || b) ≡ true
lacks_from true b h = h refl
lacks_from false b h = refl

varies_true : (part : Part) → part ≡ Vary → varies part ≡ true
varies_true part e = ap varies e

below_four : (test : ℕ → Bool) → ((p : ℕ) → p < 4 → test p ≡ true) → list_all test four_places ≡ true
below_four test h =
    and_from (test 0) _ (h 0 (omega arith)) (and_from (test 1) _ (h 1 (omega arith)) (and_from (test 2) _ (h 2 (omega arith)) (and_from (test 3) true (h 3 (omega arith)) refl)))

-- what the test of choices tells
pub choice_allowed : (kind : Kind) (parts : List Part) (operands : List ℕ) (n : ℕ) → length parts ≡ 4 → is_choice kind parts n ≡ true
    → (n < 2 ^ input_count kind) × IsGateChoice kind parts (subset_of_number (input_count kind) n)
choice_allowed kind parts operands n long e =
    let both = and_parts _ _ e in (
      ltb-true n (2 ^ input_count kind) (and_parts _ _ both.0).0,
      record {
        varies = varying_subset kind parts n long both.0;
        signed = λ z. (let yes = (Decides-int_eq (signed_sum kind (input_places kind parts) (subset_of_number (input_count kind) n)) (pos 0)).1 z in
            let no = both.1 in cc);
      },
    )

pub allowed_choice : (kind : Kind) (parts : List Part) (operands : List ℕ) (n : ℕ)
    → (n < 2 ^ input_count kind) × IsGateChoice kind parts (subset_of_number (input_count kind) n) → is_choice kind parts n ≡ true
allowed_choice kind parts operands n (small, choice) =
    and_from _ _ (and_from _ _ (lt-ltb n (2 ^ input_count kind) small) (below_four (λ p. not (has_place p n) || varies (get_or parts p Zero)) (λ p lt. lacks_from (has_place p n) (varies (get_or parts p Zero)) (at p))))
    (ap not (false_from_ne_true _ (λ z. choice.signed ((Decides-int_eq (signed_sum kind (input_places kind parts) (subset_of_number (input_count kind) n)) (pos 0)).0 z))))
  where
    at : (p : ℕ) → has_place p n ≡ true → varies (get_or parts p Zero) ≡ true
    at p e = elim (cases_lt p (input_count kind)) [
      | inl lt ↦ ap varies (sym (get_or-take (input_count kind) parts p Zero lt) ∙ choice.varies.varies p (place_of_number (input_count kind) n p lt ∙ e))
      | inr past ↦ let f = no_place p (input_count kind) n small past in cc
    ]

pub choice_small : (kind : Kind) (n : ℕ) → n < 2 ^ input_count kind → n < 16
choice_small kind n small = let more : 2 ^ input_count kind ≤ 2 ^ 4 = pow_mono (input_count-four kind) in omega arith

-- ---- filtered numbers

pub among_filtered : (test : ℕ → Bool) (n : ℕ) (ns : List ℕ) → is_among (filter test ns) n ≡ true → test n ≡ true
among_filtered test n [] e = cc
among_filtered test n (m ∷ ms) e = elim (cases_Bool (test m)) [
  | inl passes ↦ elim (or_cases (nat_eq n m) (is_among (filter test ms) n) (rw passes at e)) [
    | inl same ↦ ap test (eqb-true n m same) ∙ passes
    | inr later ↦ among_filtered test n ms later
  ]
  | inr fails ↦ among_filtered test n ms (rw fails at e)
]

-- the first number that passes comes first
pub first_filtered : (test : ℕ → Bool) (a count m d : ℕ) → a ≤ m → m < a + count → test m ≡ true → ((k : ℕ) → k < m → test k ≡ false)
    → get_or (filter test (range_with_len a count)) 0 d ≡ m
first_filtered test a zero m d low high holds none = absurd (omega arith)
first_filtered test a (suc count) m d low high holds none = elim (cases_eq a m) [
  | inl same ↦ let e : test a ≡ true = ap test same ∙ holds in rw e same
  | inr other ↦ let e : test a ≡ false = none a (omega arith) in rw e (first_filtered test (a + 1) count m d (omega arith) (omega arith) holds none)
]

-- a place of a choice is an input that varies
pub chosen_input : (kind : Kind) (parts : List Part) (n p : ℕ)
    → (n < 2 ^ input_count kind) × IsGateChoice kind parts (subset_of_number (input_count kind) n) → has_place p n ≡ true
    → get_or (input_places kind parts) p Zero ≡ Vary
chosen_input kind parts n p (small, choice) e = elim (cases_lt p (input_count kind)) [
  | inl lt ↦ choice.varies.varies p (place_of_number (input_count kind) n p lt ∙ e)
  | inr past ↦ let f = no_place p (input_count kind) n small past in cc
]

-- ---- the least choice

abbrev rebuilt : ℕ → ℕ
rebuilt n = chosen_number (λ v. false) (map (λ place. Constant (has_place place n)) four_places)

-- the places of a number below 16 tell it
pub chosen-least : (values : ℕ → Bool) (numbers : List ℕ) → get_or numbers 0 0 < 16 → chosen_number values (least_choice numbers) ≡ get_or numbers 0 0
chosen-least values numbers lt =
    let n = get_or numbers 0 0 in
    let e : rebuilt n ≡ n = eqb-true (rebuilt n) n (agree_below_at (λ k. nat_eq (rebuilt k) k) (λ k. true) 16 n refl lt) in e

pub least_first : LeastChoiceLaw → (kind : Kind) (parts : List Part) (operands : List ℕ) → length parts ≡ 4
    → IsLeastChoice (get_or (choices kind parts) 0 0) (Gate kind parts operands)
unfolding LeastChoiceLaw
least_first law kind parts operands long = go (law (Gate kind parts operands) (λ k ps os e. let f : ps ≡ parts = cc in ap length f ∙ long))
  where
    go : HasLeastChoice (Gate kind parts operands) → IsLeastChoice (get_or (choices kind parts) 0 0) (Gate kind parts operands)
    go h = subst (λ n. IsLeastChoice n (Gate kind parts operands)) (sym first) h.least
      where
        first : get_or (choices kind parts) 0 0 ≡ h.number
        first = first_filtered (is_choice kind parts) 0 16 h.number 0 (omega arith) (let s = choice_small kind h.number h.least.allowed.0 in omega arith)
            (allowed_choice kind parts operands h.number h.least.allowed)
            (λ k low. false_from_ne_true (is_choice kind parts k) (λ e. h.least.least k low (choice_allowed kind parts operands k long e)))

-- ---- the places tell the number

four_bits : Bool → Bool → Bool → Bool → ℕ
four_bits a b c d = cond a 1 0 + 2 * (cond b 1 0 + 2 * (cond c 1 0 + 2 * (cond d 1 0 + 2 * 0)))

bits_tell : (n : ℕ) → n < 16 → four_bits (has_place 0 n) (has_place 1 n) (has_place 2 n) (has_place 3 n) ≡ n
unfolding four_bits
bits_tell n lt = let e : rebuilt n ≡ n = eqb-true (rebuilt n) n (agree_below_at (λ k. nat_eq (rebuilt k) k) (λ k. true) 16 n refl lt) in e

four_same : (a b c d e f g h : Bool) → a ≡ e → b ≡ f → c ≡ g → d ≡ h → four_bits a b c d ≡ four_bits e f g h
four_same a b c d e f g h p q r s = rw (p, q, r, s) refl

-- numbers below 16 with the same places are the same
pub number_told : (one other : ℕ) → one < 16 → other < 16 → has_place 0 one ≡ has_place 0 other → has_place 1 one ≡ has_place 1 other
    → has_place 2 one ≡ has_place 2 other → has_place 3 one ≡ has_place 3 other → one ≡ other
number_told one other low small p q r s =
    sym (bits_tell one low) ∙ four_same (has_place 0 one) (has_place 1 one) (has_place 2 one) (has_place 3 one) (has_place 0 other) (has_place 1 other) (has_place 2 other) (has_place 3 other) p q r s
    ∙ bits_tell other small

among_later : (test : ℕ → Bool) (a count n : ℕ) → a ≤ n → n < a + count → test n ≡ true → is_among (filter test (range_with_len a count)) n ≡ true
among_later test a zero n low high holds = absurd (omega arith)
among_later test a (suc count) n low high holds = elim (cases_eq a n) [
  | inl same ↦ let e : test a ≡ true = ap test same ∙ holds in rw e (or_left (nat_eq n a) (is_among (filter test (range_with_len (a + 1) count)) n) (eq-eqb n a (sym same)))
  | inr other ↦ elim (cases_Bool (test a)) [
    | inl passes ↦ rw passes (or_right (nat_eq n a) (is_among (filter test (range_with_len (a + 1) count)) n) (among_later test (a + 1) count n (omega (arith, low, other)) (omega arith) holds))
    | inr fails ↦ rw fails (among_later test (a + 1) count n (omega (arith, low, other)) (omega arith) holds)
  ]
]

-- a number that passes is among those that do
pub among_test : (test : ℕ → Bool) (n : ℕ) → n < 16 → test n ≡ true → is_among (filter test set_numbers) n ≡ true
among_test test n lt holds = among_later test 0 16 n (omega arith) (omega arith) holds
