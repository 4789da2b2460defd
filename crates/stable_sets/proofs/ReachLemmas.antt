-- Calm rows have a reach.
use Rattle.std.proofs.Common.{ℕ, List, [], sym, subst}
use Rattle.std.specs.Prelude.{slice_get, Option, Some, None}
use Rattle.coco_model.specs.Reach.{IsReachedRow}
use Rattle.model_laws.proofs.Lives.{reached_exists}
use Rattle.gate_graph.specs.Graphs.{rank_in}
use Rattle.calm_reach.specs.CalmRows.{Calmness, calm_of}
use Rattle.stable_sets.specs.Reached.{ReachLaw}

pub reach_law : ReachLaw
unfolding ReachLaw
reach_law gates built rows live = record {
  reach = λ t. leaves (slice_get rows t);
  is = record {
    live = live;
    reached = λ t row at. subst (λ r. IsReachedRow gates.flat (calm_of row) (leaves r)) (sym at)
        (reached_exists gates.flat (rank_in gates) (calm_of row) built.ranked built.range).row;
  };
}
  where
    leaves : Option Calmness → ℕ → List ℕ
    leaves (Some row) = (reached_exists gates.flat (rank_in gates) (calm_of row) built.ranked built.range).reached
    leaves None = λ b. []
