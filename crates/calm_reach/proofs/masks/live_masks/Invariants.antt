use Rattle.std.proofs.Common.{◌≡◌, ℕ, ◌<◌, length, get_or}
use Rattle.calm_reach.specs.CalmRows.{row_of}
use Rattle.calm_reach.specs.Masks.{IsPairAt}
use Rattle.calm_reach.proofs.masks.live_masks.Given as goal

abbrev pub invariant-pairs : goal.invariant-pairs
invariant-pairs l =
    (length l.masks.items ≡ l.pair)
    × ((p : ℕ) → p < l.pair → IsPairAt (row_of l.parts) l.graph.flat.cells p (get_or l.masks.items p 0))
