-- The law of the clauses about probes: what values that meet them choose.
use Rattle.std.specs.Prelude.{◌≡◌, ◌≢◌, ℕ, ◌<◌, ◌≤◌, Bool, false, length, get_or, Contains}
use Rattle.coco_base.specs.declared.netlist.Wire.TheVariants.{Const, Bit}
use Rattle.circuit_clauses.specs.Meanings.{AllHold, AllReadBelow, IsBelow}
use Rattle.circuit_clauses.specs.Steps.{variables_after}
use Rattle.gate_graph.specs.Graphs.{IsBuilt}
use Rattle.probe_clauses.specs.RunViews.{RunView}
use Rattle.probe_clauses.specs.Probings.{Probing, probing_of}
use Rattle.probe_clauses.specs.Parts.{probe_part}
use Rattle.probe_clauses.specs.Rows.{at}
use Rattle.probe_laws.specs.Showing.{Choice, chosen, IsProbeChoice}

-- there may be a probe, and each lasts at least a cycle
pub record IsProbing (run : Probing) : Type 0 where
  pub order : 1 ≤ run.order
  pub window : 1 ≤ run.window

abbrev pub SoundProbesLaw : Type 0
SoundProbesLaw =
    (values : ℕ → Bool) (var : ℕ) (run : Probing) → IsProbing run
    → (let built = probe_part run var in
    AllHold values var built.steps → IsProbeChoice run (chosen values built.result.probes) (chosen values built.result.pairs))

-- the cells stand in order, readers first: none reads its own output or that of one before it; and inputs are bits of the
-- run
pub record IsOrderly (run : Probing) : Type 0 where
  pub inputs : (cell place bit : ℕ) → Contains run.cells cell → get_or (run.wires cell) place (Const false) ≡ Bit bit
      → bit < run.bits
  pub falling : (i j place : ℕ) → i ≤ j → j < length run.cells
      → get_or (run.wires (get_or run.cells j 0)) place (Const false) ≢ Bit (run.output (get_or run.cells i 0))

-- some values go on from given ones, meet the clauses and choose these probes and pairs; the steps read earlier variables
-- alone, and the signals of pairs are of these and of the steps' own
pub record AreMetBy (before : ℕ → Bool) (var : ℕ) (run : Probing) (probes pairs : Choice) : Type 0 where
  pub values : ℕ → Bool
  pub same_before : (v : ℕ) → v < var → values v ≡ before v
  pub meets : AllHold values var (probe_part run var).steps
  pub probes_are : (t b : ℕ) → chosen values (probe_part run var).result.probes t b ≡ probes t b
  pub pairs_are : (t b : ℕ) → chosen values (probe_part run var).result.pairs t b ≡ pairs t b
  pub reads : AllReadBelow var (probe_part run var).steps
  pub below : (t b : ℕ) → IsBelow (variables_after var (probe_part run var).steps) (at (probe_part run var).result.pairs t b)

-- each choice of probes and of pairs that they show is met by some values, whatever the variables before have
abbrev pub CompleteProbesLaw : Type 0
CompleteProbesLaw =
    (before : ℕ → Bool) (var : ℕ) (run : Probing) → IsProbing run → IsOrderly run → (probes pairs : Choice)
    → IsProbeChoice run probes pairs → AreMetBy before var run probes pairs

-- the steps about probes read earlier variables alone, and the signals of probes and pairs are of these and of the
-- steps' own
pub record ReadsEarlierProbes (var : ℕ) (run : Probing) : Type 0 where
  pub steps : AllReadBelow var (probe_part run var).steps
  pub probes : (t b : ℕ) → IsBelow (variables_after var (probe_part run var).steps) (at (probe_part run var).result.probes t b)
  pub pairs : (t b : ℕ) → IsBelow (variables_after var (probe_part run var).steps) (at (probe_part run var).result.pairs t b)

-- so what holds of probes does not depend on what later variables have
abbrev pub ReadsProbesLaw : Type 0
ReadsProbesLaw = (var : ℕ) (run : Probing) → ReadsEarlierProbes var run

-- so are the cells of a run over a graph that was built
abbrev pub OrderlyLaw : Type 0
OrderlyLaw = (view : RunView) → IsBuilt view.gates → IsOrderly (probing_of view)
