-- Rows of a grid stay within it.
use Rattle.std.proofs.Common.{◌≡◌, ◌+◌, ◌*◌, ◌<◌, ◌≤◌, ℕ, arith}
use Rattle.std.proofs.Math.Nat.{add-mul, mul-le-mul_right}

-- a row of so many places ends within a grid of more rows
pub rows_within : (row width rows : ℕ) → row < rows → row * width + width ≤ rows * width
rows_within row width rows h =
    let more : (row + 1) * width ≤ rows * width = mul-le-mul_right {m = row + 1} {n = rows} width (omega arith) in
    let split : (row + 1) * width ≡ row * width + 1 * width = add-mul row 1 width in
    omega (arith, more, split)
