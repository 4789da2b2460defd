-- What probes reach by the rows of a run, and what an answer tells of a finding.
use Rattle.std.specs.Prelude.{◌≡◌, ℕ, ◌<◌, Bool, IsTrue, List, length, slice_get, Some, Option, ◌↔◌}
use Rattle.coco_base.specs.declared.netlist.Flat.{Flat}
use Rattle.coco_base.specs.declared.unrolled.Unrolled.{Unrolled}
use Rattle.coco_base.specs.declared.finding.Finding.{Finding}
use Rattle.coco_model.specs.Reach.{Reach, IsReachedRow}
use Rattle.coco_model.specs.UnrolledRuns.{probed_run}
use Rattle.coco_model.specs.WrittenFindings.{IsFindingValue}
use Rattle.gate_graph.specs.Graphs.{Gates, IsBuilt}
use Rattle.calm_reach.specs.CalmRows.{Calmness, HasPlaces, AreLiveInputs, calm_of}
use Rattle.calm_reach.specs.Walks.{AreLeavesOf}

-- one row for each cycle, of a netlist's bits and cells
pub record AreRows (flat : Flat) (cycles : ℕ) (rows : List Calmness) : Type 0 where
  pub as_long : length rows ≡ cycles
  pub each : (t : ℕ) (row : Calmness) → slice_get rows t ≡ Some row → HasPlaces flat row

-- what each bit reaches in each cycle, through the inputs that the rows have as live
abbrev pub IsReachOf : Flat → List Calmness → Reach → Type 0
IsReachOf flat rows reach =
    (t b : ℕ) (row : Calmness) → slice_get rows t ≡ Some row → b < flat.bits → AreLeavesOf flat row b (reach t b)

-- an answer tells whether a value is a finding of order d, for what probes reach by the rows
abbrev pub TellsFinding : Flat → Unrolled → List Calmness → Option ℕ → ℕ → ℕ → Finding → Bool → Type 0
TellsFinding flat u rows clock window d finding answer =
    (reach : Reach) → IsReachOf flat rows reach
    → IsTrue answer ↔ IsFindingValue (probed_run u clock window reach) d finding

-- the rows are calm rows: what they have as live is live, and what is reached is reached through live inputs
pub record AreCalmReach (flat : Flat) (rows : List Calmness) (reach : Reach) : Type 0 where
  pub live : (t : ℕ) (row : Calmness) → slice_get rows t ≡ Some row → AreLiveInputs flat row
  pub reached : (t : ℕ) (row : Calmness) → slice_get rows t ≡ Some row → IsReachedRow flat (calm_of row) (reach t)

-- the same for calm rows, where only calm bits block what probes reach
abbrev pub TellsCalmFinding : Flat → Unrolled → List Calmness → Option ℕ → ℕ → ℕ → Finding → Bool → Type 0
TellsCalmFinding flat u rows clock window d finding answer =
    (reach : Reach) → AreCalmReach flat rows reach
    → IsTrue answer ↔ IsFindingValue (probed_run u clock window reach) d finding

-- what probes reach by calm rows
pub record HasCalmReach (flat : Flat) (rows : List Calmness) : Type 0 where
  pub reach : Reach
  pub is : AreCalmReach flat rows reach

-- calm rows of the graph of a netlist have a reach
unfoldable pub ReachLaw : Type 0
ReachLaw =
    (gates : Gates) → IsBuilt gates → (rows : List Calmness)
    → ((t : ℕ) (row : Calmness) → slice_get rows t ≡ Some row → AreLiveInputs gates.flat row)
    → HasCalmReach gates.flat rows
