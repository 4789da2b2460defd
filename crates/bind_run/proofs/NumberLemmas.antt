use Rattle.std.proofs.Common.{◌≡◌, ℕ, ◌+◌, ◌*◌, ◌/◌, ◌%◌, ◌<◌, ◌≤◌, ◌^◌, false, sym, ap, subst, arith}
use Rattle.std.specs.Prelude.{◌==◌}
use Rattle.std.proofs.lemmas.Nat.{shr_below}
use Rattle.bind_run.specs.Values.{number_bit}
use Rattle.std.proofs.Math.Pow.{pow_mono}

pub below_power : (n i j : ℕ) → n < 2 ^ i → i ≤ j → n < 2 ^ j
below_power n i j below h = let m = pow_mono {i = i} {j = j} h in omega arith

pub high_bit : (n k : ℕ) → n < 2 ^ 32 → 32 ≤ k → false ≡ number_bit n k
high_bit n k below h =
    let z : 0 + k ≡ k = omega arith in
    let s : n / 2 ^ k < 1 = shr_below n 0 k (subst (λ m. n < 2 ^ m) (sym z) (below_power n 32 k below h)) in
    let e : n / 2 ^ k ≡ 0 = omega arith in
    sym (ap (λ m. m % 2 == 1) e)

pub room_for : (bits size n m total : ℕ) → bits + size * n ≡ total → total < 2 ^ 32 → n ≡ m + 1 → bits + size ≤ 2 ^ 32
room_for bits size n m total e below f = let g : bits + size * (m + 1) ≡ total = subst (λ k. bits + size * k ≡ total) f e in omega arith

pub step_bits : (bits size step n m total : ℕ) → bits + size * n ≡ total → n ≡ m + 1 → step ≡ size → bits + step + size * m ≡ total
step_bits bits size step n m total e f s = let g : bits + size * (m + 1) ≡ total = subst (λ k. bits + size * k ≡ total) f e in omega arith
