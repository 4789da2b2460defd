-- What the labels of a file keep: their numbers are in range, and what may stand once stands once.
use Rattle.std.specs.Prelude.{◌≡◌, ℕ, ◌+◌, ◌*◌, ◌<◌, ◌≤◌, Bool, true, false, List, [], ◌∷◌, length, flat_map, All}
use Rattle.std.specs.List.{count_by}
use Rattle.coco_model.specs.Controls.{IsInRegion}
use Rattle.coco_model.specs.Labels.{IsLabelTable}
use Rattle.coco_model.specs.Netlist.{HasNoRepeat}
use Rattle.label_file.specs.declared.line.LabelLine.{LabelLine}
use Rattle.label_file.specs.declared.line.LabelLine.TheVariants as line
use Rattle.label_file.specs.declared.line.LabelValue.{LabelValue}
use Rattle.label_file.specs.declared.line.LabelValue.TheVariants.{Number, Bits}
use Rattle.label_file.specs.declared.line.Labels.{Labels}
use Rattle.label_file.specs.Statements.{is_clock, is_dmem, is_imem, is_pc}

-- from 1 to 32 labels, which are declared
pub record AreBits (declared first width : ℕ) : Type 0 where
  pub some : 0 < width
  pub few : width ≤ 32
  pub below : first + width ≤ declared

abbrev pub IsValue : ℕ → LabelValue → Type 0
IsValue declared (Number n) = Unit {0}
IsValue declared (Bits first width) = AreBits declared first width

-- a multiple of 4 in one of the memory's regions
pub record IsAddress (address : ℕ) : Type 0 where
  pub word : ℕ
  pub aligned : address ≡ 4 * word
  pub inside : IsInRegion address

pub record AreValues (declared : ℕ) (values : List LabelValue) : Type 0 where
  pub some : 0 < length values
  pub each : All (IsValue declared) values

pub record IsWord (declared address : ℕ) (value : LabelValue) : Type 0 where
  pub place : IsAddress address
  pub given : IsValue declared value

abbrev pub IsLine : ℕ → LabelLine → Type 0
IsLine declared (line.Reg net value) = IsValue declared value
IsLine declared (line.Input net values) = AreValues declared values
IsLine declared (line.Mem address value) = IsWord declared address value
IsLine declared (line.Leaf address) = IsAddress address
IsLine declared l = Unit {0}

-- the memory word whose value a line gives
abbrev pub named_words : LabelLine → List ℕ
named_words (line.Mem address value) = address ∷ []
named_words l = []

-- the memory word whose bits a line makes leaves
abbrev pub named_leaves : LabelLine → List ℕ
named_leaves (line.Leaf address) = address ∷ []
named_leaves l = []

abbrev pub is_version : LabelLine → Bool
is_version (line.Version number) = true
is_version l = false

-- at most one line has this form
abbrev pub StandsOnce : (LabelLine → Bool) → List LabelLine → Type 0
StandsOnce is_form lines = count_by is_form lines ≤ 1

pub record StandOnce (lines : List LabelLine) : Type 0 where
  pub words : HasNoRepeat (flat_map named_words lines)
  pub leaves : HasNoRepeat (flat_map named_leaves lines)
  pub version : StandsOnce is_version lines
  pub clock : StandsOnce is_clock lines
  pub imem : StandsOnce is_imem lines
  pub dmem : StandsOnce is_dmem lines
  pub pc : StandsOnce is_pc lines

-- the table numbers its labels and has no fresh masks, each line names declared labels and words of the memory, and no
-- line stands twice that may stand once
pub record AreLabels (labels : Labels) : Type 0 where
  pub table : IsLabelTable labels.table
  pub fresh : labels.table.fresh ≡ []
  pub per_cycle : labels.table.per_cycle ≡ 0
  pub lines : All (IsLine labels.table.declared) labels.lines
  pub once : StandOnce labels.lines
