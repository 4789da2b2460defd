-- Where the value of a bit in a cycle comes from.
use Rattle.std.specs.Prelude.{◌≡◌, ◌≢◌, ℕ, zero, suc, ◌<◌, Bool, false, Contains}
use Rattle.coco_base.specs.declared.netlist.Flat.{Flat}
use Rattle.coco_base.specs.declared.netlist.FlatCell.{FlatCell}
use Rattle.coco_base.specs.declared.netlist.Wire.{Wire}
use Rattle.coco_base.specs.declared.cell.Part.TheVariants.{Vary}
use Rattle.coco_base.specs.declared.setup.Setup.{Setup}
use Rattle.coco_model.specs.Netlist.{Valuation, wires_of, on_wire}
use Rattle.coco_model.specs.Labels.{Choice, label_bit}
use Rattle.coco_model.specs.Carried.{States, IsCarried}
use Rattle.coco_model.specs.Run.{before}
use Rattle.coco_model.specs.Known.{Row, wire_part, ones}

-- a root: nothing, a label, or the output of a cell in a cycle
pub data Root : Type 0 where
  nothing : Root
  label : ℕ → Root
  output : (cycle bit : ℕ) → Root

-- roots as states: a constant has none, and a label is its own
abbrev pub roots : States Root
roots = record { constant = λ _. nothing; label = label }

abbrev pub wire_root : (ℕ → Root) → Wire → Root
wire_root root w = on_wire (λ _. nothing) root w

-- a wire is the same in two cycles: known in both with one value, or unknown in both with one root
pub record IsSteady (old now : Row) (old_root now_root : ℕ → Root) (w : Wire) : Type 0 where
  pub part : wire_part old w ≡ wire_part now w
  pub root : wire_root old_root w ≡ wire_root now_root w

-- a cell keeps its root: there is a cycle before, and each input is as it was there
abbrev pub IsKept : (ℕ → Row) → (ℕ → ℕ → Root) → ℕ → FlatCell → Type 0
IsKept row root zero c = ⊥
IsKept row root (suc t) c =
    (w : Wire) → Contains (wires_of c) w → IsSteady (row t) (row (suc t)) (root t) (root (suc t)) w

-- the root of a cell's output: nothing where it is known, that of the cycle before where the cell keeps it, and else
-- the output itself
pub record HasCellRoot (row : ℕ → Row) (root : ℕ → ℕ → Root) (t : ℕ) (c : FlatCell) : Type 0 where
  pub known : row t c.output ≢ Vary → root t c.output ≡ nothing
  pub kept : row t c.output ≡ Vary → IsKept row root t c → root t c.output ≡ root (before t) c.output
  pub own : row t c.output ≡ Vary → (IsKept row root t c → ⊥) → root t c.output ≡ output t c.output

-- the root of every bit in each cycle, and of every bit of every memory word
pub record IsRooted (flat : Flat) (setup : Setup) (cycles : ℕ) (row : ℕ → Row) (root : ℕ → ℕ → Root)
    (word : ℕ → ℕ → ℕ → Root) : Type 0 where
  pub cells : (t : ℕ) → t < cycles → (c : FlatCell) → Contains flat.cells c → HasCellRoot row root t c
  pub carried : IsCarried roots flat setup cycles (λ t. ones (row t)) root word

-- the value of a root in a run; nothing has none
abbrev pub root_value : Choice → (ℕ → Valuation) → Root → Bool
root_value choice v nothing = false
root_value choice v (label l) = label_bit choice l
root_value choice v (output t b) = v t b
