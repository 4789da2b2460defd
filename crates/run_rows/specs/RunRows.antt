-- The calm rows of a run, and what follows of them.
use Rattle.std.specs.Prelude.{◌≡◌, ℕ, List, slice_get, Some}
use Rattle.coco_base.specs.declared.netlist.Flat.{Flat}
use Rattle.coco_base.specs.declared.setup.Setup.{Setup}
use Rattle.coco_model.specs.Known.{Row, IsKnown}
use Rattle.coco_model.specs.Reach.{Reach, IsReach}
use Rattle.coco_model.specs.Run.{before}
use Rattle.coco_model.specs.Setups.{IsBoundTo}
use Rattle.coco_model.specs.Stepped.{HasNoFault}
use Rattle.gate_graph.specs.Graphs.{Gates, IsBuilt}
use Rattle.calm_reach.specs.CalmRows.{Calmness, IsCalmRow, AreLiveInputs}
use Rattle.stable_sets.specs.Reached.{AreRows, AreCalmReach, HasCalmReach}
use Rattle.run_rows.specs.Still.{KeepsStill}

-- the row of each cycle is the calm row between what is known in the cycle before and in the cycle itself; that before
-- the first is the first itself
abbrev pub AreCalmRows : Flat → Setup → ℕ → List Calmness → Type 0
AreCalmRows flat setup cycles rows =
    (row : ℕ → Row) (word : ℕ → ℕ → Row) → IsKnown flat setup cycles row word
    → (t : ℕ) (calm : Calmness) → slice_get rows t ≡ Some calm → IsCalmRow flat (row (before t)) (row t) calm

-- what the calm rows of a run tell of it: in each cycle undriven bits and the clock keep still, and the live inputs are
-- the live ones; and there is what probes reach by the rows, which is what they reach in the run
pub record AreRowsOfRun (flat : Flat) (setup : Setup) (cycles : ℕ) (rows : List Calmness) : Type 0 where
  pub still : (t : ℕ) (row : Calmness) → slice_get rows t ≡ Some row → KeepsStill flat setup.clock row
  pub live : (t : ℕ) (row : Calmness) → slice_get rows t ≡ Some row → AreLiveInputs flat row
  pub some_reach : HasCalmReach flat rows
  pub reach : (reach : Reach) → AreCalmReach flat rows reach → IsReach flat setup cycles reach

-- the calm rows of a run without a fault, one for each cycle, tell this of it
unfoldable pub RunRowsLaw : Type 0
RunRowsLaw =
    (gates : Gates) (setup : Setup) (cycles : ℕ) → IsBuilt gates → IsBoundTo gates.flat setup
    → HasNoFault gates.flat setup cycles
    → (rows : List Calmness) → AreRows gates.flat cycles rows → AreCalmRows gates.flat setup cycles rows
    → AreRowsOfRun gates.flat setup cycles rows
