-- A number that is read is at most the greatest one that is asked for.
use Rattle.std.proofs.Common.{◌≡◌, ℕ, ◌≤◌, Bool, true, false, cond, leb, List, drop, Result, Ok, Err, refl, arith}
use Rattle.std.specs.Prelude.{◌==◌, codes, nat_le}
use Rattle.std.specs.List.{starts_with}
use Rattle.std.specs.Str.Parse.{digits_value}
use Rattle.std.proofs.lemmas.Bool.Decides.{nat_tests}
use Rattle.coco_base.specs.declared.number.NumberFault.{NumberFault}
use Rattle.coco_base.specs.declared.number.NumberFault.TheVariants.{NotDigits, TooLarge}
use Rattle.coco_base.specs.Numbers.{are_digits, literal_of, number_of, within}

cond_ok : (b : Bool) (fault : NumberFault) (r : Result ℕ NumberFault) (n : ℕ) → cond b r (Err fault) ≡ Ok n → (b ≡ true) × (r ≡ Ok n)
cond_ok true fault r n e = (refl, e)
cond_ok false fault r n e = cc

within_most : (most k n : ℕ) → within most k ≡ Ok n → n ≤ most
within_most most k n e =
    let inside = cond_ok (nat_le k most) TooLarge (Ok k) n e in
    let at_most : nat_le k most ≡ true = inside.0 in
    let same : k ≡ n = cc in
    grind (arith, nat_tests)

number_most : (radix most : ℕ) (digits : List ℕ) (n : ℕ) → number_of radix most digits ≡ Ok n → n ≤ most
number_most radix most digits n e =
    within_most most (digits_value radix digits) n (cond_ok (are_digits radix digits) NotDigits (within most (digits_value radix digits)) n e).1

either_most : (b : Bool) (p q : Result ℕ NumberFault) (most n : ℕ) → (p ≡ Ok n → n ≤ most) → (q ≡ Ok n → n ≤ most) → cond b p q ≡ Ok n → n ≤ most
either_most true p q most n hp hq e = hp e
either_most false p q most n hp hq e = hq e

pub literal_most : (most : ℕ) (word : List ℕ) (n : ℕ) → literal_of most word ≡ Ok n → n ≤ most
literal_most most word n e =
    either_most (starts_with ◌==◌ word (codes "0x")) (number_of 16 most (drop 2 word)) (number_of 10 most word) most n (number_most 16 most (drop 2 word) n) (number_most 10 most word n) e
