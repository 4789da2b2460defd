-- Lists over a range of numbers.
use Rattle.std.proofs.Common.{◌≡◌, ◌+◌, ◌<◌, ◌≤◌, ℕ, zero, suc, map, refl, arith}
use Rattle.std.specs.List.{range_with_len}

-- two functions that agree on the numbers of a range give one list over it
pub map-agree : {X : Type 0} (f g : ℕ → X) (a n : ℕ) → ((k : ℕ) → a ≤ k → k < a + n → f k ≡ g k) → map f (range_with_len a n) ≡ map g (range_with_len a n)
map-agree f g a zero same = refl
map-agree f g a (suc n) same =
    let head = same a (omega arith) (omega arith) in
    let rest = map-agree f g (a + 1) n (λ k low high. same k (omega arith) (omega arith)) in
    cc
