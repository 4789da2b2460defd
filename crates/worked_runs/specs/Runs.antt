-- When rows of a circuit and a label file make a run, and why they make none.
use Rattle.std.specs.Prelude.{◌≡◌, ℕ, List, Ok, Err}
use Rattle.std.specs.Str.Lines.{lines}
use Rattle.coco_base.specs.declared.netlist.Flat.{Flat}
use Rattle.coco_model.specs.Netlist.{IsInRange}
use Rattle.coco_model.specs.Setups.{IsBoundTo}
use Rattle.circuit_rows.specs.Flats.{flat_from}
use Rattle.circuit_rows.specs.Outcomes.{Answers}
use Rattle.gate_graph.specs.Drivers.{HasNumbers}
use Rattle.gate_graph.specs.Faults.{IsGraphFault}
use Rattle.gate_graph.specs.Graphs.{Gates, IsGraphOf}
use Rattle.gate_graph.specs.declared.fault.GraphFault.{GraphFault}
use Rattle.label_file.specs.Files.{IsFaultOf, labels_of}
use Rattle.label_file.specs.declared.fault.LabelFault.{LabelFault}
use Rattle.label_file.specs.declared.line.Labels.{Labels}
use Rattle.rv_asm.specs.declared.image.Image.{Image}
use Rattle.bind_run.specs.Causes.{Fails}
use Rattle.bind_run.specs.Outcomes.{IsBindFault, IsSetupOf}
use Rattle.bind_run.specs.Widened.{widened_by}
use Rattle.bind_run.specs.declared.fault.BindFault.{BindFault}
use Rattle.worked_runs.specs.declared.fault.RunFault.{RunFault}
use Rattle.worked_runs.specs.declared.fault.RunFault.TheVariants as fault
use Rattle.worked_runs.specs.declared.ready.Ready.{Ready}

-- rows are a circuit, and a label file has these labels
pub record IsLabelled (rows file : List ℕ) (circuit : Flat) (labels : Labels) : Type 0 where
  pub circuit_is : flat_from rows ≡ Ok circuit
  pub labels_are : labels_of 4096 (lines file) ≡ Ok labels

-- a netlist is the circuit of rows with the word leaves of a label file
pub record IsWide (rows file : List ℕ) (flat : Flat) (labels : Labels) : Type 0 where
  pub circuit : Flat
  pub labelled : IsLabelled rows file circuit labels
  pub wide : widened_by circuit labels.lines 1000000 ≡ Ok flat

-- a run over the circuit of rows, as a label file and a program say
pub record IsReady (rows file : List ℕ) (image : Image) (ready : Ready) : Type 0 where
  pub labels : Labels
  pub wide : IsWide rows file ready.flat labels
  pub graph : IsGraphOf ready.flat ready.graph
  pub setup : IsSetupOf ready.flat ready.graph.clock image labels ready.setup
  pub bound : IsBoundTo ready.graph.flat ready.setup

-- rows are a circuit, but a label file is refused
pub record HasNoLabels (rows file : List ℕ) (f : LabelFault) : Type 0 where
  pub circuit : Flat
  pub circuit_is : flat_from rows ≡ Ok circuit
  pub is_fault : IsFaultOf (labels_of 4096 (lines file)) f

-- the circuit cannot have the ports of word leaves
pub record IsTooWide (rows file : List ℕ) (f : BindFault) : Type 0 where
  pub circuit : Flat
  pub labels : Labels
  pub labelled : IsLabelled rows file circuit labels
  pub fails : Fails f (widened_by circuit labels.lines 1000000)

-- a netlist names bits that it has not, or has too many parts
pub record IsOutside (rows file : List ℕ) : Type 0 where
  pub flat : Flat
  pub labels : Labels
  pub wide : IsWide rows file flat labels
  pub outside : IsInRange flat × HasNumbers flat → ⊥

-- a netlist has no graph
pub record HasNoGraph (rows file : List ℕ) (f : GraphFault) : Type 0 where
  pub flat : Flat
  pub labels : Labels
  pub wide : IsWide rows file flat labels
  pub is_fault : IsGraphFault flat f

-- a label file does not fit the netlist
pub record IsUnfit (rows file : List ℕ) (f : BindFault) : Type 0 where
  pub flat : Flat
  pub labels : Labels
  pub wide : IsWide rows file flat labels
  pub gates : Gates
  pub graph : IsGraphOf flat gates
  pub is_fault : IsBindFault flat gates.clock labels f

-- why rows and a label file make no run: the first step that has a fault
abbrev pub IsRunFault : List ℕ → List ℕ → RunFault → Type 0
IsRunFault rows file (fault.Rows f) = Answers {A = Flat} (Err f) (flat_from rows)
IsRunFault rows file (fault.Labels f) = HasNoLabels rows file f
IsRunFault rows file (fault.Widening f) = IsTooWide rows file f
IsRunFault rows file fault.Range = IsOutside rows file
IsRunFault rows file (fault.Graph f) = HasNoGraph rows file f
IsRunFault rows file (fault.Binding f) = IsUnfit rows file f
