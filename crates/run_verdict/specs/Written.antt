-- The formula that is written for a run.
use Rattle.std.specs.Prelude.{◌≡◌, ℕ, ◌≤◌, List}
use Rattle.coco_base.specs.declared.setup.Setup.{Setup}
use Rattle.coco_base.specs.declared.unrolled.Unrolled.{Unrolled}
use Rattle.coco_model.specs.UnrolledRuns.{IsUnrolledFor, IsUnrolledOf}
use Rattle.gate_graph.specs.Graphs.{Gates}
use Rattle.calm_reach.specs.CalmRows.{Calmness}
use Rattle.label_cone.specs.Coned.{Coned, IsConedRun, IsWithinWeight}
use Rattle.stable_sets.specs.Reached.{AreRows}
use Rattle.run_rows.specs.RunRows.{AreCalmRows, AreRowsOfRun}
use Rattle.probe_clauses.specs.RunViews.{RunView, view_of}
use Rattle.run_verdict.specs.declared.formula.Asked.{Asked}
use Rattle.probe_encode.specs.Formulas.{EncodedView, encoded}
use Rattle.probe_encode.specs.Sources.{encoding_of, query_of}

-- numbers as the programs take them
pub record IsAsked (asked : Asked) : Type 0 where
  pub some_order : 1 ≤ asked.order
  pub order : asked.order ≤ 64
  pub some_window : 1 ≤ asked.window
  pub some_cycles : 1 ≤ asked.cycles
  pub cycles : asked.cycles ≤ 65536

-- a graph with its run over these rows, as formulas are made from it
abbrev pub view_in : Gates → Setup → Asked → Unrolled → List Calmness → RunView
view_in gates setup asked u rows = view_of gates u rows (query_of setup.clock asked.order asked.window)

-- what a formula is written from: the unrolled run, its calm rows, and its cones, of a weight within the limit
pub record IsWrittenFrom (gates : Gates) (setup : Setup) (asked : Asked) (limit : ℕ) (u : Unrolled)
    (rows : List Calmness) (coned : Coned) : Type 0 where
  pub unrolled : IsUnrolledOf gates.flat setup asked.cycles u
  pub of_graph : IsUnrolledFor gates.flat gates.ranks u
  pub are_rows : AreRows gates.flat asked.cycles rows
  pub calm : AreCalmRows gates.flat setup asked.cycles rows
  pub tell : AreRowsOfRun gates.flat setup asked.cycles rows
  pub cones : IsConedRun u asked.order coned
  pub within : IsWithinWeight u asked.order limit coned

-- the formula of a run, with what a finding is read from
pub record IsWritten (gates : Gates) (setup : Setup) (asked : Asked) (limit : ℕ) (form : EncodedView) : Type 0 where
  pub u : Unrolled
  pub rows : List Calmness
  pub coned : Coned
  pub from : IsWrittenFrom gates setup asked limit u rows coned
  pub is : form ≡ encoded (encoding_of (view_in gates setup asked u rows) u coned)
