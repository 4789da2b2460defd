-- Small circuits, with which the definitions can be computed by hand.
use Rattle.std.specs.Prelude.{ℕ, zero, suc, Bool, false, true, List, [], ◌∷◌, ◌++◌, map, length, get_or, ℤ, Some, None, Contains, ◌↔◌}
use Rattle.std.specs.List.{range_with_len}
use Rattle.coco_base.specs.declared.text.Text.{Text}
use Rattle.coco_base.specs.declared.cell.Kind.{Kind}
use Rattle.coco_base.specs.declared.cell.Kind.TheVariants.{And, Or, Xor, Mux}
use Rattle.coco_base.specs.declared.cell.Part.{Part}
use Rattle.coco_base.specs.declared.cell.Part.TheVariants.{Zero, Vary}
use Rattle.coco_base.specs.declared.netlist.Flat.{Flat}
use Rattle.coco_base.specs.declared.netlist.FlatCell.{FlatCell}
use Rattle.coco_base.specs.declared.netlist.FlatFlop.{FlatFlop}
use Rattle.coco_base.specs.declared.netlist.FlatPort.{FlatPort}
use Rattle.coco_base.specs.declared.netlist.Wire.{Wire}
use Rattle.coco_base.specs.declared.netlist.Wire.TheVariants.{Const, Bit}
use Rattle.coco_base.specs.declared.labels.LabelTable.{LabelTable}
use Rattle.coco_base.specs.declared.setup.Start.{Start}
use Rattle.coco_base.specs.declared.setup.Start.TheVariants.{Public, Label}
use Rattle.coco_base.specs.declared.setup.InputPlan.{InputPlan}
use Rattle.coco_base.specs.declared.setup.MemPlan.{MemPlan}
use Rattle.coco_base.specs.declared.setup.When.{When}
use Rattle.coco_base.specs.declared.setup.ControlPlan.{ControlPlan}
use Rattle.coco_base.specs.declared.setup.Setup.{Setup}
use Rattle.coco_base.specs.declared.finding.Probe.{Probe}
use Rattle.coco_base.specs.declared.finding.Finding.{Finding}
use Rattle.coco_base.specs.declared.unrolled.Node.{Node}
use Rattle.coco_base.specs.declared.unrolled.Node.TheVariants.{Nothing, Label as LabelNode, Copy, Gate}
use Rattle.coco_model.specs.Cells.{signed_sum, subset_of_number}
use Rattle.coco_model.specs.Netlist.{Valuation}
use Rattle.coco_model.specs.Known.{Row}
use Rattle.coco_model.specs.Reach.{Reach, IsReach}
use Rattle.coco_model.specs.Roots.{Root, IsRooted}
use Rattle.coco_model.specs.Roots.Root.{nothing, label, output}
use Rattle.coco_model.specs.Findings.{Labels, IsSelection, IsFinding}
use Rattle.coco_model.specs.Nodes.{node_number}
use Rattle.coco_model.specs.WrittenFindings.{ProbedRun}

-- the signed sums of a gate at the subsets with the first n numbers
abbrev pub signed_sums : Kind → List Part → ℕ → List ℤ
signed_sums kind parts count =
    map (λ number. signed_sum kind parts (subset_of_number (length parts) number)) (range_with_len 0 count)

abbrev pub input_port : Text → ℕ → FlatPort
input_port name bit = record { name = name; input = true; wires = Bit bit ∷ [] }

abbrev pub gate : Text → Kind → List Wire → ℕ → FlatCell
gate name kind inputs bit = record { name = name; kind = kind; inputs = inputs; output = bit }

-- a flop that keeps its value, clocked by bit 0
abbrev pub keeper : Text → ℕ → FlatFlop
keeper name bit = record { name = name; clock = Bit 0; next = Bit bit; output = bit; reset = None; level = false }

-- y = XOR(a, b): a and b are the input bits 0 and 1, and y is bit 2
abbrev pub two_input_xor : Text → Flat
two_input_xor name = record {
  bits = 3;
  ports = input_port name 0 ∷ input_port name 1 ∷ [];
  cells = gate name Xor (Bit 0 ∷ Bit 1 ∷ Const false ∷ Const false ∷ []) 2 ∷ [];
  flops = [];
  nets = [];
}

-- y = MUX(q0, q1, s): the clock is bit 0, the input s bit 1, the flops q0 and q1 that keep their values bits 2 and 3,
-- and y bit 4
abbrev pub selected_shares : Text → Flat
selected_shares name = record {
  bits = 5;
  ports = input_port name 0 ∷ input_port name 1 ∷ [];
  cells = gate name Mux (Bit 2 ∷ Bit 3 ∷ Bit 1 ∷ Const false ∷ []) 4 ∷ [];
  flops = keeper name 2 ∷ keeper name 3 ∷ [];
  nets = [];
}

-- y = AND(q0, z) with z = XOR(s, s): the clock is bit 0, the input s bit 1, z bit 2, the flop q0 that keeps its value
-- bit 3, and y bit 4
abbrev pub pulsing_gate : Text → Flat
pulsing_gate name = record {
  bits = 5;
  ports = input_port name 0 ∷ input_port name 1 ∷ [];
  cells =
      gate name And (Bit 3 ∷ Bit 2 ∷ Const false ∷ Const false ∷ []) 4
      ∷ gate name Xor (Bit 1 ∷ Bit 1 ∷ Const false ∷ Const false ∷ []) 2
      ∷ [];
  flops = keeper name 3 ∷ [];
  nets = [];
}

-- one flop that keeps its value, bit 1, over the clock, bit 0
abbrev pub one_register : Text → Flat
one_register name =
    record { bits = 2; ports = input_port name 0 ∷ []; cells = []; flops = keeper name 1 ∷ []; nets = [] }

-- the labels of one secret of one bit in n shares
abbrev pub one_secret : Text → ℕ → LabelTable
one_secret name shares = record {
  secrets = record { name = name; width = 1; shares = shares; first = 0 } ∷ [];
  masks = [];
  fresh = [];
  declared = shares;
  per_cycle = 0;
}

-- a run with these starts and inputs and one secret, clocked by bit 0
abbrev pub example_setup : Text → ℕ → List Start → List InputPlan → Setup
example_setup name shares starts inputs = record {
  starts = starts;
  inputs = inputs;
  echoes = [];
  memories = [];
  words = [];
  leaves = [];
  controls = [];
  pc = [];
  lines = [];
  table = one_secret name shares;
  clock = Some 0;
}

-- the flops q0 and q1 hold the two shares of a secret, and s is 0 and then 1
abbrev pub selected_setup : Text → Setup
selected_setup name = example_setup name 2 (Public false ∷ Public false ∷ Label 0 ∷ Label 1 ∷ Public false ∷ [])
    (record { bit = 1; values = Public false ∷ Public true ∷ [] } ∷ [])

-- the flop q0 holds a share, and s is 0 and then 1
abbrev pub pulsing_setup : Text → Setup
pulsing_setup name = example_setup name 2 (Public false ∷ Public false ∷ Public false ∷ Label 0 ∷ Public false ∷ [])
    (record { bit = 1; values = Public false ∷ Public true ∷ [] } ∷ [])

-- the flop holds the one share of a secret
abbrev pub unshared_setup : Text → Setup
unshared_setup name = example_setup name 1 (Public false ∷ Label 0 ∷ []) []

-- the finding there as a value, with a set of labels: the probe of the flop in cycle 0, which shows the flop
abbrev pub unshared_value : List ℕ → Finding
unshared_value labels = record {
  probes = record { bit = 1; cycle = 0 } ∷ [];
  seen = record { bit = 1; cycle = 0 } ∷ [];
  selection = record { choices = 0 ∷ 0 ∷ [] };
  set = labels;
}

-- what is known of the bits of a list, and 0 of all others
abbrev pub known_bits : List Part → Row
known_bits parts b = get_or parts b Zero

-- what the flop and the clock reach
abbrev pub unshared_reach : Reach
unshared_reach t b = get_or ([] ∷ (1 ∷ []) ∷ []) b []

-- the run of its one cycle, with probes of one cycle
abbrev pub unshared_run : Text → ProbedRun
unshared_run name = record {
  bits = 2;
  cycles = 1;
  clock = Some 0;
  table = one_secret name 1;
  window = 1;
  row = λ t. known_bits (Zero ∷ Vary ∷ []);
  reach = unshared_reach;
  index = node_number 2 (λ b. b);
  nodes = Nothing ∷ LabelNode 0 ∷ [];
}

-- y = MUX(q0, q1, s) reaches q0 while s stays 0, all three while s changes, and q1 while s stays 1
pub record IsSelectedReach (reach : Reach) : Type 0 where
  pub zero : (leaf : ℕ) → Contains (reach 0 4) leaf ↔ Contains (2 ∷ []) leaf
  pub changing : (leaf : ℕ) → Contains (reach 1 4) leaf ↔ Contains (1 ∷ 2 ∷ 3 ∷ []) leaf
  pub one : (leaf : ℕ) → Contains (reach 2 4) leaf ↔ Contains (3 ∷ []) leaf

-- y = AND(q0, XOR(s, s)) reaches nothing while s stays 0, and both q0 and s while s changes
pub record IsPulsingReach (reach : Reach) : Type 0 where
  pub still : (leaf : ℕ) → Contains (reach 0 4) leaf ↔ Contains [] leaf
  pub changing : (leaf : ℕ) → Contains (reach 1 4) leaf ↔ Contains (1 ∷ 3 ∷ []) leaf

-- both inputs of the exclusive or are 1, and its output 0
abbrev pub inputs_high : Valuation
inputs_high zero = true
inputs_high (suc zero) = true
inputs_high (suc (suc b)) = false

-- a memory port whose request is bit 1, with a write at bit 2, one byte enable at bit 3 and these address wires
abbrev pub memory_port : List Wire → MemPlan
memory_port address = record {
  request = Bit 1;
  write = Some (Bit 2);
  enables = Bit 3 ∷ [];
  address = address;
  value = [];
  answer = [];
}

-- a setup with that port, whose address is bit 4
abbrev pub setup_with_port : Text → Setup
setup_with_port name = record (example_setup name 1 [] []) { memories = memory_port (Bit 4 ∷ []) ∷ [] }

abbrev pub control : Text → ℕ → When → ControlPlan
control name bit when = record { name = name; wire = Bit bit; when = when }

-- n wires of one constant
abbrev pub constants : ℕ → Bool → List Wire
constants zero b = []
constants (suc n) b = Const b ∷ constants n b

-- a memory port whose address is 0x4000, and one whose address is 0x3fff
abbrev pub high_port : MemPlan
high_port = memory_port (constants 14 false ++ Const true ∷ [])

abbrev pub low_port : MemPlan
low_port = memory_port (constants 14 true)

-- a flop whose reset is bit 2, active at this level
abbrev pub resettable : Text → Bool → FlatFlop
resettable name level = record (keeper name 1) { reset = Some (Bit 2); level = level }

-- w = XOR(q0, n), r = FLOP(w) and y = XOR(r, q1), where the flops q0, q1 and n keep their values: the bits are, in this
-- order, the clock, q0, q1, n, w, r and y
abbrev pub masked_register : Text → Flat
masked_register name = record {
  bits = 7;
  ports = input_port name 0 ∷ [];
  cells =
      gate name Xor (Bit 1 ∷ Bit 3 ∷ Const false ∷ Const false ∷ []) 4
      ∷ gate name Xor (Bit 5 ∷ Bit 2 ∷ Const false ∷ Const false ∷ []) 6
      ∷ [];
  flops = keeper name 1 ∷ keeper name 2 ∷ keeper name 3 ∷ record (keeper name 5) { next = Bit 4 } ∷ [];
  nets = [];
}

-- q0 and q1 hold the two shares of a secret, n a mask, and r is 0
abbrev pub masked_setup : Text → Setup
masked_setup name = record
    (example_setup name 2 (Public false ∷ Label 0 ∷ Label 1 ∷ Label 2 ∷ Public false ∷ Public false ∷ Public false ∷ []) [])
    { table = record (one_secret name 2) { masks = record { name = name; width = 1; first = 2 } ∷ []; declared = 3 } }

-- what is known of it in two cycles
abbrev pub masked_row : ℕ → Row
masked_row zero = known_bits (Zero ∷ Vary ∷ Vary ∷ Vary ∷ Vary ∷ Zero ∷ Vary ∷ [])
masked_row (suc t) = known_bits (Zero ∷ Vary ∷ Vary ∷ Vary ∷ Vary ∷ Vary ∷ Vary ∷ [])

-- its roots in two cycles
abbrev pub masked_root : ℕ → ℕ → Root
masked_root zero b = get_or (nothing ∷ label 0 ∷ label 1 ∷ label 2 ∷ output 0 4 ∷ nothing ∷ output 0 6 ∷ []) b nothing
masked_root (suc t) b =
    get_or (nothing ∷ label 0 ∷ label 1 ∷ label 2 ∷ output 0 4 ∷ output 0 4 ∷ output 1 6 ∷ []) b nothing

-- the numbers of its nodes
abbrev pub masked_index : ℕ → ℕ → ℕ
masked_index = node_number 7 (λ b. b)

-- its nodes in each of two cycles
abbrev pub masked_cycle : ℕ → List Node
masked_cycle zero =
    Nothing ∷ LabelNode 0 ∷ LabelNode 1 ∷ LabelNode 2
    ∷ Gate Xor (Vary ∷ Vary ∷ Zero ∷ Zero ∷ []) (1 ∷ 3 ∷ 0 ∷ 0 ∷ []) ∷ Nothing
    ∷ Gate Xor (Zero ∷ Vary ∷ Zero ∷ Zero ∷ []) (0 ∷ 2 ∷ 0 ∷ 0 ∷ [])
    ∷ []
masked_cycle (suc t) =
    Nothing ∷ Copy 1 ∷ Copy 2 ∷ Copy 3 ∷ Copy 4 ∷ Copy 4
    ∷ Gate Xor (Vary ∷ Vary ∷ Zero ∷ Zero ∷ []) (12 ∷ 9 ∷ 0 ∷ 0 ∷ []) ∷ []

abbrev pub masked_node : ℕ → ℕ → Node
masked_node t b = get_or (masked_cycle t) b Nothing

-- all of them, in order
abbrev pub masked_nodes : List Node
masked_nodes = masked_cycle 0 ++ masked_cycle 1

-- their cones
abbrev pub masked_cones : ℕ → List ℕ
masked_cones i =
    get_or
    ([] ∷ (0 ∷ []) ∷ (1 ∷ []) ∷ (2 ∷ []) ∷ (0 ∷ 2 ∷ []) ∷ [] ∷ (1 ∷ [])
    ∷ [] ∷ (0 ∷ []) ∷ (1 ∷ []) ∷ (2 ∷ []) ∷ (0 ∷ 2 ∷ []) ∷ (0 ∷ 2 ∷ []) ∷ (0 ∷ 1 ∷ 2 ∷ [])
    ∷ [])
    i []

-- which of them matter: the labels, and the gate to which copies lead
abbrev pub masked_matters : ℕ → Bool
masked_matters i = get_or (false ∷ true ∷ true ∷ true ∷ true ∷ []) i false

-- a memory port that writes in every cycle what bit 1 has to the lowest bit of the word at 0x10000
abbrev pub writing_port : MemPlan
writing_port = record {
  request = Const true;
  write = Some (Const true);
  enables = constants 4 true;
  address = constants 16 false ++ Const true ∷ [];
  value = Bit 1 ∷ [];
  answer = [];
}

-- the clock is bit 0, the flop q that keeps its value bit 1, and the lowest bit of a word leaf bit 2
abbrev pub overwritten_word : Text → Flat
overwritten_word name = record {
  bits = 3;
  ports = input_port name 0 ∷ input_port name 2 ∷ [];
  cells = [];
  flops = keeper name 1 ∷ [];
  nets = [];
}

-- the word at 0x10000 is a leaf that starts with share 0 of a secret, and q, whose value is written there, holds share 1
abbrev pub overwritten_setup : Text → Setup
overwritten_setup name = record (example_setup name 2 (Public false ∷ Label 1 ∷ Label 0 ∷ []) []) {
  memories = writing_port ∷ [];
  words = record { address = 0x10000; bits = Label 0 ∷ [] } ∷ [];
  leaves = record { address = 0x10000; bits = 2 ∷ [] } ∷ [];
}

-- y = OR(AND(q0, s0), AND(q1, s1)): the bits are, in this order, the clock, the flops q0 and q1 that keep their values,
-- the inputs s0 and s1, the two ANDs, and y
abbrev pub two_selects : Text → Flat
two_selects name = record {
  bits = 8;
  ports = input_port name 0 ∷ input_port name 3 ∷ input_port name 4 ∷ [];
  cells =
      gate name And (Bit 1 ∷ Bit 3 ∷ Const false ∷ Const false ∷ []) 5
      ∷ gate name And (Bit 2 ∷ Bit 4 ∷ Const false ∷ Const false ∷ []) 6
      ∷ gate name Or (Bit 5 ∷ Bit 6 ∷ Const false ∷ Const false ∷ []) 7
      ∷ [];
  flops = keeper name 1 ∷ keeper name 2 ∷ [];
  nets = [];
}

-- q0 and q1 hold the two shares of a secret; s0 is 1, 0, 0 and s1 is 0, 0, 1
abbrev pub two_selects_setup : Text → Setup
two_selects_setup name = example_setup name 2
    (Public false ∷ Label 0 ∷ Label 1 ∷ Public true ∷ Public false ∷ Public false ∷ Public false ∷ Public false ∷ [])
    (record { bit = 3; values = Public true ∷ Public false ∷ Public false ∷ [] }
    ∷ record { bit = 4; values = Public false ∷ Public false ∷ Public true ∷ [] }
    ∷ [])

-- a probe of y from a cycle on
abbrev pub y_from : ℕ → Probe
y_from cycle = record { bit = 7; cycle = cycle }

-- q0 in cycle 1 and q1 in cycle 2
abbrev pub late_shares : List Probe
late_shares = record { bit = 1; cycle = 1 } ∷ record { bit = 2; cycle = 2 } ∷ []

-- whatever the run's reach, roots and selection are, a probe of y that lasts two cycles from cycle 1 on finds both shares
abbrev pub FindsLateShares : Text → Type 0
FindsLateShares name =
    (reach : Reach) (r : IsReach (two_selects name) (two_selects_setup name) 3 reach)
    → (root : ℕ → ℕ → Root) (rooted : ℕ → ℕ → ℕ → Root)
    → IsRooted (two_selects name) (two_selects_setup name) 3 r.row root rooted
    → (set_of : Root → Labels) → IsSelection (two_selects name) 3 r.row root set_of
    → IsFinding (two_selects name) (two_selects_setup name) 3 2 1 r.row reach root (y_from 1 ∷ []) late_shares set_of
