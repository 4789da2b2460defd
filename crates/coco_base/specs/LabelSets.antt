-- Sets of labels, by their members.
use Rattle.std.specs.Prelude.{◌≡◌, ℕ, Bool, ◌||◌, not, cond, List, nat_eq}
use Rattle.std.specs.List.{list_any}

-- whether a label is a member
abbrev pub has : List ℕ → ℕ → Bool
has members label = list_any (nat_eq label) members

-- c has the labels that exactly one of a and b has
pub record IsSymmetricDifference (a b c : List ℕ) : Type 0 where
  pub each : (l : ℕ) → has c l ≡ cond (has a l) (not (has b l)) (has b l)

-- c has the labels that a or b has
pub record IsUnion (a b c : List ℕ) : Type 0 where
  pub each : (l : ℕ) → has c l ≡ (has a l || has b l)
