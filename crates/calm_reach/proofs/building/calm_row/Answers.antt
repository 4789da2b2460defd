use Rattle.std.proofs.Common.{ℕ, ◌<◌, length, get_or, subst}
use Rattle.calm_reach.specs.CalmRows.{row_of, calmness_of}
use Rattle.calm_reach.specs.Masks.{IsPairAt}
use Rattle.calm_reach.proofs.MaskLemmas.{live_of_pairs}
use Rattle.calm_reach.proofs.building.calm_row.Goals as goal

pub returns : goal.returns
returns c = record {
  row = record {
    places = record { bits = c.in_ok-parts.ensures.as_long; cells = c.cells.ensures.cells };
    calm = c.in_ok-parts.ensures.calm;
    live = live_of_pairs c.args.graph.now.flat (calmness_of c.in_ok-parts.parts.items c.cells.result c.in_ok-masks.masks.items)
        (subst (λ ps. (pair : ℕ) → pair < length c.in_ok-masks.masks.items → IsPairAt (row_of ps) c.args.graph.now.flat.cells pair (get_or c.in_ok-masks.masks.items pair 0))
        c.as_slice.ensures.value c.in_ok-masks.ensures.masks)
        c.in_ok-masks.ensures.as_long;
  };
}
