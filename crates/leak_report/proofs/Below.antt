-- A test of all members.
use Rattle.std.proofs.Common.{◌≡◌, ℕ, ◌<◌, true, List, get_or, All, arith}
use Rattle.std.specs.Prelude.{nat_lt}
use Rattle.std.specs.List.{list_all}
use Rattle.std.proofs.lemmas.Bool.Decides.{nat_tests}
use Rattle.std.proofs.lemmas.List.Sums.{AllPass-from_list_all, list_all-from_AllPass}

pub all_below : (bound : ℕ) (xs : List ℕ) → list_all (λ x. nat_lt x bound) xs ≡ true → All (λ x. x < bound) xs
all_below bound xs all = λ k d within.
    let pass : nat_lt (get_or xs k d) bound ≡ true = AllPass-from_list_all (λ x. nat_lt x bound) xs all k d within in
    grind (arith, nat_tests)

pub below_all : (bound : ℕ) (xs : List ℕ) → All (λ x. x < bound) xs → list_all (λ x. nat_lt x bound) xs ≡ true
below_all bound xs all = list_all-from_AllPass (λ x. nat_lt x bound) xs (λ k d within.
    let below : get_or xs k d < bound = all k d within in
    grind (arith, nat_tests))
