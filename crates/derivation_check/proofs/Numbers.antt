-- Numbers written in decimal, with a byte behind them that is no digit.
use Rattle.std.proofs.Common.{◌≡◌, ℕ, suc, zero, ◌+◌, ◌<◌, ◌≤◌, List, [], ◌∷◌, ◌++◌, length, get_or, take, decimal, eqb, Bool, true, false, cond, Ok, Err, refl, sym, ◌∙◌, ap, inl, inr, arith}
use Rattle.std.specs.Prelude.{nat_le, nat_lt}
use Rattle.std.specs.Char.{digit_value}
use Rattle.std.specs.List.{list_all}
use Rattle.std.proofs.lemmas.Str.{digit_value_digit}
use Rattle.std.proofs.lemmas.Bool.Decides.{nat_tests}
use Rattle.coco_base.specs.declared.number.NumberFault.{NumberFault}
use Rattle.coco_base.specs.declared.number.NumberFault.TheVariants.{TooLarge}
use Rattle.coco_base.specs.Numbers.{are_digits, number_of, within}
use Rattle.std.specs.Str.Parse.{digits_value}
use Rattle.std.proofs.lemmas.Str.Parse.{IsNumeralModel, numerals_by_value, tells_by_index, digits_value_short}
use Rattle.std.proofs.lemmas.Fmt.{decimal_nonempty, decimal_digit, first_decimal, length-decimal-le, digits_decimal, digits_value-decimal, decimal-digits_value}
use Rattle.std.proofs.lemmas.List.{get_or_append_left, length-append}
use Rattle.std.proofs.Math.Seq.{get_or-append_seam, take-append_seam}
use Rattle.std.proofs.lemmas.Grind.{common_steps}
use Rattle.std.proofs.lemmas.Bool.{cases_order}
use Rattle.derivation_check.specs.Texts.{AreDigits}

pub own : IsNumeralModel AreDigits (digits_value 10)
own = numerals_by_value AreDigits tells_by_index

pub digits_front : (bytes : List ℕ) (i : ℕ) → i ≤ length bytes → AreDigits bytes → AreDigits (take i bytes)
digits_front bytes i le digits = λ k lt.
    let n : length (take i bytes) ≡ i = grind (arith, common_steps) in
    let e : get_or (take i bytes) k 0 ≡ get_or bytes k 0 = grind (arith, common_steps) in
    rw e (digits k (omega arith))

-- fewer than ten digits leave room for one more
pub front_small : (bytes : List ℕ) (i : ℕ) → i < length bytes → length bytes ≤ 10 → AreDigits bytes → digits_value 10 (take i bytes) < 1000000000
front_small bytes i lt short digits =
    let n : length (take i bytes) ≡ i = grind (arith, common_steps) in
    digits_value_short own (take i bytes) 9 (digits_front bytes i (omega arith) digits) (omega arith)

pub value_small : (bytes : List ℕ) → length bytes ≤ 10 → AreDigits bytes → digits_value 10 bytes < 10000000000
value_small bytes short digits = digits_value_short own bytes 10 digits short

pub decimal_digits : (n : ℕ) → n ≤ 2147483647 → AreDigits (decimal n)
decimal_digits n le = digits_decimal own n (omega arith)

pub decimal_some : (n : ℕ) → n ≤ 2147483647 → 0 < length (decimal n)
decimal_some n le = decimal_nonempty n (omega arith)

pub decimal_short : (n : ℕ) → n ≤ 2147483647 → length (decimal n) ≤ 10
decimal_short n le = length-decimal-le 10 n (omega arith) (omega arith) (omega arith)

-- a number has no leading zero
pub decimal_plain : (n : ℕ) → n ≤ 2147483647 → get_or (decimal n) 0 0 ≡ 48 → length (decimal n) ≤ 1
decimal_plain zero le first = let e : decimal 0 ≡ 48 ∷ [] = decimal_digit 0 (omega arith) in rw e (omega arith)
decimal_plain (suc n) le first = let h : 48 < get_or (decimal (suc n)) 0 0 = first_decimal (suc n) (omega arith) (omega arith) in absurd (omega arith)

pub decimal_value : (n : ℕ) → n ≤ 2147483647 → digits_value 10 (decimal n) ≡ n
decimal_value n le = digits_value-decimal own n (omega arith)

-- digits without a leading zero write their value
pub digits_write : (bytes : List ℕ) → AreDigits bytes → 0 < length bytes → (get_or bytes 0 0 ≡ 48 → length bytes ≡ 1) → digits_value 10 bytes ≤ 2147483647 → bytes ≡ decimal (digits_value 10 bytes)
digits_write bytes digits some plain le = sym (decimal-digits_value own bytes digits some plain (omega arith))

pub length-seam : (ds more : List ℕ) (end : ℕ) → length (ds ++ end ∷ more) ≡ length ds + (length more + 1)
length-seam ds more end = grind (arith, length-append)

-- the digits at the front of a text are the number that is written there
pub front_is : (bytes ds more : List ℕ) (end len : ℕ) → bytes ≡ ds ++ end ∷ more → AreDigits ds → end < 48 → ((k : ℕ) → k < len → (48 ≤ get_or bytes k 0) × (get_or bytes k 0 ≤ 57)) → len ≤ length bytes → (len < length bytes → 48 ≤ get_or bytes len 0 → get_or bytes len 0 ≤ 57 → ⊥) → len ≡ length ds
front_is bytes ds more end len e digits small front within stop =
    let n : length bytes ≡ length ds + (length more + 1) = ap length e ∙ length-seam ds more end in
    let seam : get_or bytes (length ds) 0 ≡ end = rw e (get_or-append_seam ds end more 0) in
    elim (cases_order len (length ds)) [
      | inl same ↦ same
      | inr (inl less) ↦
          let at : get_or bytes len 0 ≡ get_or ds len 0 = rw e (get_or_append_left ds (end ∷ more) 0 len less) in
          let low : 48 ≤ get_or ds len 0 = (digits len less).0 in
          let high : get_or ds len 0 ≤ 57 = (digits len less).1 in
          absurd (stop (omega arith) (omega arith) (omega arith))
      | inr (inr greater) ↦
          let low : 48 ≤ get_or bytes (length ds) 0 = (front (length ds) greater).0 in
          absurd (omega arith)
    ]

pub front_text : (bytes ds more : List ℕ) (end len : ℕ) → bytes ≡ ds ++ end ∷ more → len ≡ length ds → take len bytes ≡ ds
front_text bytes ds more end len e same = rw (e, same) (take-append_seam ds (end ∷ more))

pub some_length : (bytes : List ℕ) → eqb (length bytes) 0 ≡ false → 0 < length bytes
some_length [] e = absurd (cc)
some_length (b ∷ bytes) e = omega arith

pub front_digits : (bytes : List ℕ) (len : ℕ) → len ≤ length bytes → ((k : ℕ) → k < len → (48 ≤ get_or bytes k 0) × (get_or bytes k 0 ≤ 57)) → AreDigits (take len bytes)
front_digits bytes len le digits = λ k lt.
    let n : length (take len bytes) ≡ len = grind (arith, common_steps) in
    let e : get_or (take len bytes) k 0 ≡ get_or bytes k 0 = grind (arith, common_steps) in
    rw e (digits k (omega arith))

-- decimal digits are digits of the radix 10
digits_pass : (bytes : List ℕ) → AreDigits bytes → list_all (λ d. nat_lt (digit_value d) 10) bytes ≡ true
digits_pass [] digits = refl
digits_pass (b ∷ bytes) digits =
    let parts = tells_by_index.parts b bytes digits in
    let value : digit_value b + 48 ≡ b = digit_value_digit b parts.0 in
    let high : b ≤ 57 = parts.0.1 in
    let low : nat_lt (digit_value b) 10 ≡ true = grind (arith, nat_tests) in
    rw (low, digits_pass bytes parts.1) refl

of_ten : (bytes : List ℕ) → 0 < length bytes → AreDigits bytes → are_digits 10 bytes ≡ true
of_ten [] some digits = absurd (omega arith)
of_ten (b ∷ bytes) some digits = digits_pass (b ∷ bytes) digits

cond_ok : (b : Bool) (fault : NumberFault) (k n : ℕ) → cond b (Ok k) (Err fault) ≡ Ok n → (b ≡ true) × (k ≡ n)
cond_ok true fault k n e = (refl, cc)
cond_ok false fault k n e = cc

cond_err : (b : Bool) (large fault : NumberFault) (k : ℕ) → cond b (Ok k) (Err large) ≡ Err fault → b ≡ false
cond_err true large fault k e = cc
cond_err false large fault k e = refl

-- a number that is read has a digit
pub number_some : (most n : ℕ) (bytes : List ℕ) → number_of 10 most bytes ≡ Ok n → 0 < length bytes
number_some most n [] e = cc
number_some most n (b ∷ bytes) e = omega arith

-- a number that is read is the value of its digits, and not past the greatest one
pub number_read : (most n : ℕ) (bytes : List ℕ) → AreDigits bytes → 0 < length bytes →
    number_of 10 most bytes ≡ Ok n → (digits_value 10 bytes ≡ n) × (n ≤ most)
number_read most n bytes digits some e =
    let inside : within most (digits_value 10 bytes) ≡ Ok n = rw (of_ten bytes some digits) at e in
    let parts = cond_ok (nat_le (digits_value 10 bytes) most) TooLarge (digits_value 10 bytes) n inside in
    let le : nat_le (digits_value 10 bytes) most ≡ true = parts.0 in
    let same : digits_value 10 bytes ≡ n = parts.1 in
    (same, grind (arith, nat_tests))

-- where none is read, the value of the digits is past the greatest one
pub number_missed : (most : ℕ) (fault : NumberFault) (bytes : List ℕ) → AreDigits bytes → 0 < length bytes →
    number_of 10 most bytes ≡ Err fault → most < digits_value 10 bytes
number_missed most fault bytes digits some e =
    let inside : within most (digits_value 10 bytes) ≡ Err fault = rw (of_ten bytes some digits) at e in
    let past : nat_le (digits_value 10 bytes) most ≡ false =
    cond_err (nat_le (digits_value 10 bytes) most) TooLarge fault (digits_value 10 bytes) inside in
    grind (arith, nat_tests)
