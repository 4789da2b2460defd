-- Marks that are set where a test holds, and else kept.
use Rattle.std.specs.Prelude.{◌≡◌, ℕ, ◌<◌, Bool, false, ◌||◌, List, length, get_or}

pub record AreMarked (old new : List Bool) (p : ℕ → Bool) : Type 0 where
  pub as_long : length new ≡ length old
  pub each : (l : ℕ) → l < length old → get_or new l false ≡ (get_or old l false || p l)
