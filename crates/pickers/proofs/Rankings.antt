-- Rankings at their start, after a change, and what a search in one finds.
use Rattle.std.proofs.Common.{◌≡◌, ℕ, ◌+◌, ◌-◌, ◌<◌, ◌≤◌, ◌^◌, Bool, true, false, List, ◌++◌, length, get_or, take, drop, Option, Some, None, MatchOption, is_some, replicate, position, refl, ◌∙◌, inl, inr, arith}
use Rattle.std.proofs.lemmas.List.{length-replicate, get_or-replicate, get_or_past}
use Rattle.std.proofs.lemmas.List.Quantifiers.{position-Some}
use Rattle.std.proofs.lemmas.Option.{get_or_from_slice_get}
use Rattle.std.proofs.lemmas.Grind.{common_steps}
use Rattle.std.proofs.lemmas.Bool.{cases_eq, cases_lt}
use Rattle.pickers.specs.Choices.{IsOpen, AllAreSet, GoesFirst, IsFirstOf, IsFound, Beats}
use Rattle.pickers.specs.Tree.{AreLed, IsRefreshed, IsRanking, leader_of}
use Rattle.pickers.proofs.Trees.{led_refreshed, range_refreshed, leader-leaf, leader-inner, leaf_alone}

-- what a vector holds after a call that was lent it as a slice
pub whole_items : (new items : List ℕ) (len : ℕ) → len ≡ length items → length new ≡ length items → take len (new ++ drop (length new) items) ≡ new
whole_items new items len e f = grind (arith, common_steps)

pub ranking_refreshed : (numbers old new : List ℕ) (node : ℕ) → IsRanking numbers old → 0 < node → node < length numbers → length new ≡ length old → IsRefreshed numbers old new node → IsRanking numbers new
ranking_refreshed numbers old new node r pos lt n h = record {
  small = r.small;
  same = n ∙ r.same;
  range = range_refreshed numbers old new node r.same h r.range;
  led = led_refreshed numbers old new node r.same pos lt h r.led;
}

abbrev zeros : ℕ → List ℕ
zeros n = replicate n 0

length-zeros : (n : ℕ) → length (zeros n) ≡ n
length-zeros n = length-replicate n 0

get_or-zeros : (n i : ℕ) → get_or (zeros n) i 0 ≡ 0
get_or-zeros n i =
    elim (cases_lt i n) [
      | inl lt ↦ get_or-replicate n i 0 0 lt
      | inr ge ↦ let e : length (zeros n) ≡ n = length-zeros n in get_or_past (zeros n) i 0 (omega arith)
    ]

zero_goes_first : (n a b : ℕ) → a ≤ b → GoesFirst (zeros n) a b
zero_goes_first n a b le =
    let p : get_or (zeros n) a 0 ≡ 0 = get_or-zeros n a in
    let q : get_or (zeros n) b 0 ≡ 0 = get_or-zeros n b in
    record { number = omega arith; tie = λ lt. omega arith }

-- where all numbers are 0 the first variable may lead every node
led_zeros : (n : ℕ) → AreLed (zeros n) (zeros n)
led_zeros n = λ node pos var lt u.
    let e : length (zeros n) ≡ n = length-zeros n in
    elim (cases_lt node n) [
      | inl inner ↦
          let l : leader_of (zeros n) node ≡ get_or (zeros n) node 0 = leader-inner (zeros n) node (omega arith) in
          let z : get_or (zeros n) node 0 ≡ 0 = get_or-zeros n node in
          zero_goes_first n (leader_of (zeros n) node) var (omega arith)
      | inr leaf ↦
          let l : leader_of (zeros n) node ≡ node - length (zeros n) = leader-leaf (zeros n) node (omega arith) in
          let a : node ≡ length (zeros n) + var = leaf_alone (length (zeros n)) var node lt (omega arith) u in
          zero_goes_first n (leader_of (zeros n) node) var (omega arith)
    ]

pub ranking_zeros : (n : ℕ) → n < 2 ^ 32 → IsRanking (zeros n) (zeros n)
ranking_zeros n lt =
    let e : length (zeros n) ≡ n = length-zeros n in
    record {
      small = rw e lt;
      same = refl;
      range = λ k d k_lt.
          let k_lt' : k < n = omega arith in
          let z : get_or (zeros n) k d ≡ 0 = get_or-replicate n k 0 d k_lt' in
          omega arith;
      led = led_zeros n;
    }

-- a variable without a number goes behind each that has one
behind_positive : (numbers : List ℕ) (a b : ℕ) → 0 < get_or numbers a 0 → get_or numbers b 0 ≡ 0 → GoesFirst numbers a b
behind_positive numbers a b positive none = record { number = omega arith; tie = λ lt. omega arith }

pub found_first : (numbers : List ℕ) (unset : List Bool) (found : Option ℕ) → is_some found ≡ true → IsFound numbers unset found → ((v : ℕ) → v < length numbers → IsOpen unset v → 0 < get_or numbers v 0 → Beats numbers found v) → MatchOption found (AllAreSet unset) (IsFirstOf numbers unset)
found_first numbers unset None some is_found beats = absurd (cc)
found_first numbers unset (Some var) some is_found beats = record {
  is_open = is_found.is_open;
  first = λ other is_open.
      elim (cases_eq (get_or numbers other 0) 0) [
        | inl none ↦ behind_positive numbers var other is_found.positive none
        | inr some_number ↦
            elim (cases_lt other (length numbers)) [
              | inl lt ↦ beats other lt is_open (omega arith)
              | inr past ↦ let z : get_or numbers other 0 ≡ 0 = get_or_past numbers other 0 past in behind_positive numbers var other is_found.positive z
            ]
      ];
}

-- where no variable with a number is unset, the least one goes first
pub rest_first : (numbers : List ℕ) (unset : List Bool) (var : ℕ) → IsOpen unset var → position (λ b. b) unset ≡ Some var → ((v : ℕ) → v < length numbers → IsOpen unset v → 0 < get_or numbers v 0 → ⊥) → IsFirstOf numbers unset var
rest_first numbers unset var is_open least none = record {
  is_open = is_open;
  first = λ other other_open.
      let z : get_or numbers other 0 ≡ 0 = no_number other other_open in
      record {
        number = omega arith;
        tie = λ lt.
            let set : get_or unset other false ≡ false = (position-Some (λ b. b) unset var false least).2 other lt in
            let open_there : get_or unset other false ≡ true = get_or_from_slice_get unset other true false other_open in
            absurd (cc);
      };
}
  where
    no_number : (v : ℕ) → IsOpen unset v → get_or numbers v 0 ≡ 0
    no_number v v_open =
        elim (cases_lt v (length numbers)) [
          | inl lt ↦ elim (cases_eq (get_or numbers v 0) 0) [ inl e ↦ e | inr some ↦ absurd (none v lt v_open (omega arith)) ]
          | inr ge ↦ get_or_past numbers v 0 ge
        ]
