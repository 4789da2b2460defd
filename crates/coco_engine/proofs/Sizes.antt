-- The numbers that the words of a call give are in their limits.
use Rattle.std.proofs.Common.{◌≡◌, ◌≤◌, ℕ, Bool, true, false, List, Option, Some, None, Ok, Err, refl, subst, arith, nat_le, if◌then◌else◌}
use Rattle.std.proofs.lemmas.Bool.Decides.{nat_tests}
use Rattle.coco_base.specs.declared.number.NumberFault.TheVariants.{NotDigits, TooLarge}
use Rattle.coco_base.specs.Numbers.{are_digits, number_of, within}
use Rattle.command_words.specs.Commands.{Check, Sizes, check_command, check_of, files_of, sizes_of}
use Rattle.command_words.specs.Tables as table
use Rattle.command_words.specs.Tables.{Text, check_table}
use Rattle.command_words.specs.Values.{◌>>=◌, as_number, from_low, number_at, number_or}
use Rattle.command_words.specs.Words.{Values, values_by}
use Rattle.coco_engine.specs.Answers.{IsInSizes}

-- what comes of two steps comes of each
record Came {A B : Type 0} (o : Option A) (f : A → Option B) (y : B) : Type 0 where
  first : A
  is : o ≡ Some first
  rest : f first ≡ Some y

came : {A B : Type 0} (o : Option A) (f : A → Option B) (y : B) → (o >>= f) ≡ Some y → Came o f y
came None f y h = absurd (cc)
came (Some x) f y h = record { first = x; is = refl; rest = h }

-- a value that a test lets through
passed : (b : Bool) (x y : ℕ) → (if b then Some x else None) ≡ Some y → (b ≡ true) × (x ≡ y)
passed true x y h = (refl, cc)
passed false x y h = absurd (cc)

unrefused : (b : Bool) (o : Option ℕ) (y : ℕ) → (if b then None else o) ≡ Some y → o ≡ Some y
unrefused true o y h = absurd (cc)
unrefused false o y h = h

some_same : {A : Type 0} {x y : A} → Some x ≡ Some y → x ≡ y
some_same h = cc

record IsWithin (low high n : ℕ) : Type 0 where
  least : low ≤ n
  most : n ≤ high

low_within : (low high k n : ℕ) (few : Bool) → nat_le k high ≡ few → from_low low (if few then Ok k else Err TooLarge) ≡ Some n → IsWithin low high n
low_within low high k n true few h =
    let p = passed (nat_le low k) k n h in
    let t = p.0 in
    let e = p.1 in
    record { least = grind (arith, nat_tests, t, e); most = grind (arith, nat_tests, few, e) }
low_within low high k n false few h = absurd (cc)

digits_within : (low high k n : ℕ) (digits : Bool) → from_low low (if digits then within high k else Err NotDigits) ≡ Some n → IsWithin low high n
digits_within low high k n true h = low_within low high k n (nat_le k high) refl h
digits_within low high k n false h = absurd (cc)

word_within : (low high n : ℕ) (word : Text) → as_number low high word ≡ Some n → IsWithin low high n
word_within low high n word h =
    digits_within low high _ n (are_digits 10 word) (unrefused _ (from_low low (number_of 10 high word)) n h)

given_within : (low high default n : ℕ) (given : Option Text) → low ≤ default → default ≤ high → number_or low high default given ≡ Some n → IsWithin low high n
given_within low high default n None least most h =
    let e : default ≡ n = cc in
    record { least = omega (arith, e, least); most = omega (arith, e, most) }
given_within low high default n (Some word) least most h = word_within low high n word h

record AreSizes (s : Sizes) : Type 0 where
  order : IsWithin 1 64 s.order
  window : IsWithin 1 64 s.window
  cycles : IsWithin 1 65536 s.cycles

sizes_within : (values : Values) (s : Sizes) → sizes_of values ≡ Some s → AreSizes s
sizes_within values s h =
    let a = came (number_at table.order values) _ s h in
    let b = came (number_at table.window values) _ s a.rest in
    let d = came (number_at table.cycles values) _ s b.rest in
    let order = given_within 1 64 1 a.first (values table.order.name) (omega arith) (omega arith) a.is in
    let window = given_within 1 64 1 b.first (values table.window.name) (omega arith) (omega arith) b.is in
    let cycles = given_within 1 65536 1 d.first (values table.cycles.name) (omega arith) (omega arith) d.is in
    let same = some_same d.rest in
    subst AreSizes same (record { order = order; window = window; cycles = cycles })

check_within : (values : Values) (c : Check) → check_of values ≡ Some c → IsInSizes c
check_within values c h =
    let a = came (files_of values) _ c h in
    let b = came (sizes_of values) _ c a.rest in
    let d = came (number_at table.steps values) _ c b.rest in
    let e = came (number_at table.restart values) _ c d.rest in
    let sizes = sizes_within values b.first b.is in
    let steps = given_within 1 1000000000 1000000 d.first (values table.steps.name) (omega arith) (omega arith) d.is in
    let restart = given_within 1 1000000000 1000000000 e.first (values table.restart.name) (omega arith) (omega arith) e.is in
    let same = some_same e.rest in
    subst IsInSizes same
    (record {
      asked = record { some_order = sizes.order.least; order = sizes.order.most; some_window = sizes.window.least; some_cycles = sizes.cycles.least; cycles = sizes.cycles.most };
      window = sizes.window.most;
      some_steps = steps.least;
      steps = steps.most;
      some_restart = restart.least;
      restart = restart.most;
    })

pub in_sizes : (words : List Text) (c : Check) → check_command words ≡ Some c → IsInSizes c
in_sizes words c h = let a = came (values_by check_table words) check_of c h in check_within a.first c a.rest
