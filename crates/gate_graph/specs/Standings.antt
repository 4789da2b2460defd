-- Bits in the order of their ranks.
use Rattle.std.specs.Prelude.{◌≡◌, ◌≢◌, ℕ, ◌<◌, List, length, get_or}
use Rattle.gate_graph.specs.Ranks.{GoesBefore}

-- each number below the length stands once
pub record IsArrangement (bits : List ℕ) : Type 0 where
  pub below : (k : ℕ) → k < length bits → get_or bits k 0 < length bits
  pub once : (j k : ℕ) → j < k → k < length bits → get_or bits j 0 ≢ get_or bits k 0
  pub every : (b : ℕ) → b < length bits → (k : ℕ) × (k < length bits) × (get_or bits k 0 ≡ b)

-- all bits by level, and in one level by number
pub record AreByRank (levels bits : List ℕ) : Type 0 where
  pub as_long : length bits ≡ length levels
  pub arranged : IsArrangement bits
  pub ordered : (j k : ℕ) → j < k → k < length bits
      → GoesBefore (λ b. get_or levels b 0) (get_or bits j 0) (get_or bits k 0)

-- for each number the place at which it stands
pub record ArePlaces (bits places : List ℕ) : Type 0 where
  pub as_long : length places ≡ length bits
  pub each : (k : ℕ) → k < length bits → get_or places (get_or bits k 0) 0 ≡ k
