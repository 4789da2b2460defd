-- The run that a formula is made from, with what probes reach in it.
use Rattle.std.specs.Prelude.{◌≡◌, ℕ, ◌≤◌, slice_get, Some, All}
use Rattle.coco_base.specs.declared.unrolled.Unrolled.{Unrolled}
use Rattle.coco_model.specs.Reach.{Reach}
use Rattle.coco_model.specs.UnrolledRuns.{IsUnrolledFor, probed_run}
use Rattle.coco_model.specs.WrittenFindings.{ProbedRun}
use Rattle.gate_graph.specs.Graphs.{IsBuilt}
use Rattle.calm_reach.specs.CalmRows.{Calmness, HasPlaces}
use Rattle.label_cone.specs.Coned.{Coned}
use Rattle.probe_clauses.specs.RunViews.{RunView}
use Rattle.stable_sets.specs.Reached.{AreCalmReach}
use Rattle.run_rows.specs.Still.{KeepsStill}
use Rattle.probe_encode.specs.Sources.{IsSource}

-- in each cycle what nothing drives keeps still, and so does the clock
abbrev pub AllKeepStill : RunView → Type 0
AllKeepStill view = (t : ℕ) (row : Calmness) → slice_get view.rows t ≡ Some row → KeepsStill view.gates.flat view.clock row

-- the nodes of a graph's run with its calm rows and cones, and what probes reach by these rows; a probe lasts at least a
-- cycle
pub record IsFormulaRun (view : RunView) (u : Unrolled) (coned : Coned) (reach : Reach) : Type 0 where
  pub built : IsBuilt view.gates
  pub source : IsSource view u coned
  pub of_graph : IsUnrolledFor view.gates.flat view.gates.ranks u
  pub places : All (HasPlaces view.gates.flat) view.rows
  pub lasting : 1 ≤ view.window
  pub reached : AreCalmReach view.gates.flat view.rows reach
  pub still : AllKeepStill view

-- the run as probes of its window see it
abbrev pub seen_in : RunView → Unrolled → Reach → ProbedRun
seen_in view u reach = probed_run u view.clock view.window reach
