-- When files make a run, and why they make none: what each reader gives, in the order in which they are asked.
use Rattle.std.specs.Prelude.{◌≡◌, ◌≢◌, ℕ, ◌≤◌, Bool, true, false, List, [], ◌⊎◌, Option, Some, None, Ok, Err}
use Rattle.std.specs.Str.Lines.{lines}
use Rattle.coco_base.specs.declared.limits.Limits.{Limits}
use Rattle.coco_base.specs.declared.netlist.Flat.{Flat}
use Rattle.coco_model.specs.Setups.{IsBoundTo}
use Rattle.netlist_json.specs.Flats.{netlist_from}
use Rattle.gate_graph.specs.Faults.{IsGraphFault}
use Rattle.gate_graph.specs.Graphs.{Gates, IsGraphOf}
use Rattle.gate_graph.specs.declared.fault.GraphFault.{GraphFault}
use Rattle.gate_graph.specs.declared.fault.GraphFault.TheVariants as graph
use Rattle.rv_asm.specs.Programs.{IsImageOf}
use Rattle.rv_asm.specs.Programs as program
use Rattle.rv_asm.specs.WordFile.{HasWords, IsWordFault}
use Rattle.rv_asm.specs.declared.fault.AsmFault.{AsmFault}
use Rattle.rv_asm.specs.declared.fault.AsmFault.TheVariants as asm
use Rattle.rv_asm.specs.declared.image.Image.{Image}
use Rattle.label_file.specs.Files.{labels_of}
use Rattle.label_file.specs.declared.fault.LabelFault.{LabelFault}
use Rattle.label_file.specs.declared.line.Labels.{Labels}
use Rattle.bind_run.specs.Outcomes.{IsBindFault, IsSetupOf}
use Rattle.bind_run.specs.Widened.{leaf_addresses, widened_by}
use Rattle.bind_run.specs.declared.fault.BindFault.{BindFault}
use Rattle.bind_run.specs.declared.fault.BindFault.TheVariants as bind
use Rattle.refusal_lines.specs.declared.refusal.Refusal.{Refusal}
use Rattle.refusal_lines.specs.declared.refusal.Refusal.TheVariants.{Long, Net, Graph, Asm, Label, Bind, Unroll, Cone, Proof, Other}
use Rattle.refusal_lines.specs.declared.stop.Stop.{Stop}
use Rattle.refusal_lines.specs.declared.stop.Stop.TheVariants.{Refused, Memory}
use Rattle.run_inputs.specs.Inputs.{Files}
use Rattle.run_inputs.specs.declared.prepared.Prepared.{Prepared}

-- ---- what the files make

-- the netlist that the file has, and that it has a graph
pub record HasNetlist (files : Files) (limits : Limits) (plain : Flat) : Type 0 where
  pub read : netlist_from limits.bits files.top files.netlist ≡ Ok plain
  pub gates : Gates
  pub graph : IsGraphOf plain gates

-- the image of a file of words or of assembly; without a file there are no words
abbrev pub IsProgram : Bool → Option (List ℕ) → Image → Type 0
IsProgram word_file None image = image ≡ record { text = []; values = []; lines = [] }
IsProgram true (Some bytes) image = HasWords (lines bytes) image
IsProgram false (Some bytes) image = IsImageOf (lines bytes) image

-- the netlist, and the words of the program
pub record HasProgram (files : Files) (limits : Limits) (plain : Flat) (image : Image) : Type 0 where
  pub netlist : HasNetlist files limits plain
  pub program : IsProgram files.word_file files.program image

-- these, and the labels
pub record HasLabels (files : Files) (limits : Limits) (plain : Flat) (image : Image) (labels : Labels) : Type 0 where
  pub program : HasProgram files limits plain image
  pub labelled : labels_of limits.labels (lines files.labels) ≡ Ok labels

-- the netlist with the ports of the words that are leaves
pub record IsWide (files : Files) (limits : Limits) (flat : Flat) (image : Image) (labels : Labels) : Type 0 where
  pub plain : Flat
  pub labelled : HasLabels files limits plain image labels
  pub wide : widened_by plain labels.lines limits.bits ≡ Ok flat

-- the netlist is that of the file, and no memory word is a leaf
pub record IsLeafless (files : Files) (limits : Limits) (p : Prepared) : Type 0 where
  pub read : netlist_from limits.bits files.top files.netlist ≡ Ok p.flat
  pub none : p.setup.leaves ≡ []

-- a run: this netlist with its graph, and the setup that binds the labels and the program to it
pub record IsPrepared (files : Files) (limits : Limits) (p : Prepared) : Type 0 where
  pub image : Image
  pub labels : Labels
  pub wide : IsWide files limits p.flat image labels
  pub graph : IsGraphOf p.flat p.graph
  pub setup : IsSetupOf p.flat p.graph.clock image labels p.setup
  pub bound : IsBoundTo p.flat p.setup
  pub leafless : leaf_addresses labels.lines ≡ [] → IsLeafless files limits p

-- ---- why they make none: the first step that has a fault

-- the netlist has no graph
pub record HasNoGraph (files : Files) (limits : Limits) (f : GraphFault) : Type 0 where
  pub plain : Flat
  pub read : netlist_from limits.bits files.top files.netlist ≡ Ok plain
  pub is_fault : IsGraphFault plain f
  pub no_want : f ≢ graph.Memory

abbrev pub IsProgramFault : Bool → Option (List ℕ) → AsmFault → Type 0
IsProgramFault word_file None f = ⊥
IsProgramFault true (Some bytes) f = IsWordFault (lines bytes) f
IsProgramFault false (Some bytes) f = program.IsFaultOf (lines bytes) f

-- the program is not read
pub record HasNoProgram (files : Files) (limits : Limits) (f : AsmFault) : Type 0 where
  pub plain : Flat
  pub netlist : HasNetlist files limits plain
  pub is_fault : IsProgramFault files.word_file files.program f
  pub no_want : f ≢ asm.Memory

-- the label file is not read
pub record HasNoLabels (files : Files) (limits : Limits) (f : LabelFault) : Type 0 where
  pub plain : Flat
  pub image : Image
  pub program : HasProgram files limits plain image
  pub fails : labels_of limits.labels (lines files.labels) ≡ Err f

-- the netlist cannot have the ports of the words that are leaves
pub record IsTooWide (files : Files) (limits : Limits) (f : BindFault) : Type 0 where
  pub plain : Flat
  pub image : Image
  pub labels : Labels
  pub labelled : HasLabels files limits plain image labels
  pub fails : widened_by plain labels.lines limits.bits ≡ Err f

-- the labels do not fit the netlist
pub record IsUnfit (files : Files) (limits : Limits) (f : BindFault) : Type 0 where
  pub flat : Flat
  pub image : Image
  pub labels : Labels
  pub wide : IsWide files limits flat image labels
  pub gates : Gates
  pub graph : IsGraphOf flat gates
  pub is_fault : IsBindFault flat gates.clock labels f
  pub no_want : f ≢ bind.Memory

abbrev pub IsFileRefusal : Files → Limits → Refusal → Type 0
IsFileRefusal files limits (Long name) = ⊥
IsFileRefusal files limits (Net f) = netlist_from limits.bits files.top files.netlist ≡ Err f
IsFileRefusal files limits (Graph f) = HasNoGraph files limits f
IsFileRefusal files limits (Asm f) = HasNoProgram files limits f
IsFileRefusal files limits (Label f) = HasNoLabels files limits f
IsFileRefusal files limits (Bind f) = IsTooWide files limits f ⊎ IsUnfit files limits f
IsFileRefusal files limits (Unroll f) = ⊥
IsFileRefusal files limits (Cone f) = ⊥
IsFileRefusal files limits (Proof f) = ⊥
IsFileRefusal files limits (Other line) = ⊥

-- a refusal with its cause; want of memory has none here
abbrev pub IsFileStop : Files → Limits → Stop → Type 0
IsFileStop files limits (Refused r) = IsFileRefusal files limits r
IsFileStop files limits Memory = Unit {0}

-- the limits of readers are at most the usual ones
pub record AreWithinUsual (limits : Limits) : Type 0 where
  pub labels : limits.labels ≤ 4096
  pub bits : limits.bits ≤ 1000000
