-- Labels of shares that 32-bit numbers hold.
use Rattle.std.specs.Prelude.{ℕ, ◌<◌, ◌^◌, List, Contains}

abbrev pub AreSmall : List (List ℕ) → Type 0
AreSmall sets = (labels : List ℕ) → Contains sets labels → (l : ℕ) → Contains labels l → l < 2 ^ 32
