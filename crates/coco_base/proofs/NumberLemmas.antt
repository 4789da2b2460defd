-- Numbers digit by digit.
use Rattle.std.proofs.Common.{◌≡◌, ℕ, ◌+◌, ◌*◌, ◌<◌, ◌≤◌, true, List, length, take, get_or, Err, arith}
use Rattle.std.specs.Char.{digit_value}
use Rattle.std.specs.Str.Parse.{digits_value}
use Rattle.std.proofs.lemmas.Int.Digits.{digits_value_more}
use Rattle.std.proofs.lemmas.Str.Parse.{digits_value-take-le}
use Rattle.std.proofs.lemmas.Bool.Decides.{nat_tests}
use Rattle.coco_base.specs.declared.number.NumberFault.TheVariants.{TooLarge}
use Rattle.coco_base.specs.Numbers.{are_digits, number_of}

-- with one digit more the number is past the greatest one
pub number_of-large : (radix most n i : ℕ) (word : List ℕ) → 1 ≤ radix → i < length word → are_digits radix word ≡ true → n ≡ digits_value radix (take i word) → most < n * radix + digit_value (get_or word i 0) → Err TooLarge ≡ number_of radix most word
number_of-large radix most n i word some h digits value large =
    let more : digits_value radix (take (i + 1) word) ≡ digits_value radix (take i word) * radix + digit_value (get_or word i 0) = digits_value_more radix word i h in
    let part : n * radix + digit_value (get_or word i 0) ≤ digits_value radix word = rw (value, ← more) (digits_value-take-le radix word (i + 1) some) in
    rw digits (grind (arith, nat_tests))
