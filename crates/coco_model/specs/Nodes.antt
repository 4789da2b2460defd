-- The nodes of an unrolled run, by the roots that they stand for, and selections of nodes.
use Rattle.std.specs.Prelude.{◌≡◌, ◌≢◌, ℕ, suc, ◌+◌, ◌*◌, ◌^◌, ◌<◌, ◌≤◌, false, List, map, length, get_or, nat_eq, pos, Contains}
use Rattle.coco_base.specs.declared.netlist.Flat.{Flat}
use Rattle.coco_base.specs.declared.netlist.FlatCell.{FlatCell}
use Rattle.coco_base.specs.declared.netlist.Wire.{Wire}
use Rattle.coco_base.specs.declared.netlist.Wire.TheVariants.{Const, Bit}
use Rattle.coco_base.specs.declared.cell.Kind.{Kind}
use Rattle.coco_base.specs.declared.cell.Part.{Part}
use Rattle.coco_base.specs.declared.cell.Part.TheVariants.{Zero, One, Vary}
use Rattle.coco_base.specs.declared.unrolled.Node.{Node}
use Rattle.coco_base.specs.declared.unrolled.Node.TheVariants.{Nothing, Label, Copy, Gate}
use Rattle.coco_model.specs.Cells.{input_count, input_places, Subset, IsSubsetOf, subset_of_number, signed_sum}
use Rattle.coco_model.specs.Netlist.{wires_of}
use Rattle.coco_model.specs.Findings.{Labels, chosen_set}
use Rattle.coco_base.specs.declared.setup.Setup.{Setup}
use Rattle.coco_model.specs.Carried.{States, IsGiven, IsFirst, IsNext}
use Rattle.coco_model.specs.Run.{before}
use Rattle.coco_model.specs.Known.{Row, cell_parts, ones}
use Rattle.coco_model.specs.Roots.{Root, IsKept}
use Rattle.coco_model.specs.Roots.Root.{nothing, label, output}

-- the operand of a gate at a place: the node of an input that is unknown, else 0
abbrev pub part_operand : Part → ℕ → ℕ
part_operand Zero i = 0
part_operand One i = 0
part_operand Vary i = i

abbrev pub wire_operand : Row → (ℕ → ℕ) → Wire → ℕ
wire_operand row index (Const b) = 0
wire_operand row index (Bit n) = part_operand (row n) (index n)

-- a gate node stands for a cell: it has the cell's kind, and at its inputs what is known of the cell's inputs and their
-- nodes; another place is Zero with operand 0
pub record IsGateOf (index : ℕ → ℕ) (row : Row) (c : FlatCell) (kind : Kind) (gate_parts : List Part)
    (gate_operands : List ℕ) : Type 0 where
  pub kinds : kind ≡ c.kind
  pub parts : input_places kind gate_parts ≡ cell_parts row c
  pub operands : input_places kind gate_operands ≡ map (wire_operand row index) (wires_of c)
  pub others : (j : ℕ) → input_count kind ≤ j → get_or gate_parts j Zero ≡ Zero
  pub no_operands : (j : ℕ) → input_count kind ≤ j → get_or gate_operands j 0 ≡ 0

-- a node is the gate of a cell
abbrev pub IsOwnGate : (ℕ → ℕ) → Row → FlatCell → Node → Type 0
IsOwnGate index row c Nothing = ⊥
IsOwnGate index row c (Label l) = ⊥
IsOwnGate index row c (Copy j) = ⊥
IsOwnGate index row c (Gate kind parts operands) = IsGateOf index row c kind parts operands

-- the node of a bit in a cycle, where index gives the numbers of nodes: by the bit's root it is nothing, a label, a
-- copy of an earlier cycle's node with the same root, or the gate of the cell that drives the bit
abbrev pub IsNodeOf : Flat → (ℕ → ℕ → ℕ) → (ℕ → Row) → (ℕ → ℕ → Root) → ℕ → ℕ → Node → Type 0
IsNodeOf flat index row root t b Nothing = root t b ≡ nothing
IsNodeOf flat index row root t b (Label l) = root t b ≡ label l
IsNodeOf flat index row root t b (Copy j) =
    (s : ℕ) × (c : ℕ) × (s < t) × (c < flat.bits) × (j ≡ index s c) × (root t b ≢ nothing) × (root t b ≡ root s c)
IsNodeOf flat index row root t b (Gate kind parts operands) =
    (c : FlatCell) × Contains flat.cells c × (c.output ≡ b) × (root t b ≡ output t b)
    × IsGateOf (index t) (row t) c kind parts operands

-- nodes as states: a constant is nothing, and a label is its own
abbrev pub starting_nodes : States Node
starting_nodes = record { constant = λ _. Nothing; label = Label }

-- a copy of a bit's node where the bit is unknown, and else nothing
abbrev pub copy_of : Part → ℕ → Node
copy_of Zero i = Nothing
copy_of One i = Nothing
copy_of Vary i = Copy i

-- the node of a cell's output: nothing where it is known, a copy of the node in the cycle before where the cell keeps
-- its root, and else the cell's gate
pub record HasCellNode (index : ℕ → ℕ → ℕ) (row : ℕ → Row) (root : ℕ → ℕ → Root) (t : ℕ) (c : FlatCell)
    (node : Node) : Type 0 where
  pub known : row t c.output ≢ Vary → node ≡ Nothing
  pub kept : row t c.output ≡ Vary → IsKept row root t c → node ≡ Copy (index (before t) c.output)
  pub own : row t c.output ≡ Vary → (IsKept row root t c → ⊥) → IsOwnGate (index t) (row t) c node

-- the nodes of a run, by cycle and bit, where word tells those of memory words: a start is nothing or a label; a later
-- leaf is nothing where it is known, and else a copy of its source's node. What is stored in a word's bit is a copy of the
-- node of the bit that was stored; a word's bit that is not stored keeps its node
pub record IsUnrolled (flat : Flat) (setup : Setup) (cycles : ℕ) (index : ℕ → ℕ → ℕ) (row : ℕ → Row)
    (root : ℕ → ℕ → Root) (node : ℕ → ℕ → Node) (word : ℕ → ℕ → ℕ → Node) : Type 0 where
  pub cells : (t : ℕ) → t < cycles → (c : FlatCell) → Contains flat.cells c
      → HasCellNode index row root t c (node t c.output)
  pub given : (t : ℕ) → t < cycles → IsGiven starting_nodes flat setup t (node t)
  pub first : IsFirst starting_nodes flat setup (node 0) (word 0)
  pub next : (t : ℕ) → suc t < cycles
      → IsNext starting_nodes flat setup (ones (row t)) (λ b. copy_of (row t b) (index t b)) (word t) (node (suc t))
      (word (suc t))

-- a node leads to its origin by copies
pub data LeadsTo (nodes : ℕ → Node) (origin : ℕ) : ℕ → Type 0 where
  stays : LeadsTo nodes origin origin
  goes : (i j : ℕ) → nodes i ≡ Copy j → LeadsTo nodes origin j → LeadsTo nodes origin i

-- every bit in every cycle has its node, and no two share one
pub record AreNodesOf (flat : Flat) (cycles : ℕ) (index : ℕ → ℕ → ℕ) (row : ℕ → Row) (root : ℕ → ℕ → Root)
    (nodes : ℕ → Node) : Type 0 where
  pub each : (t b : ℕ) → t < cycles → b < flat.bits → IsNodeOf flat index row root t b (nodes (index t b))
  pub apart : (t b s c : ℕ) → b < flat.bits → c < flat.bits → index t b ≡ index s c → (t ≡ s) × (b ≡ c)

-- the number of the node of a bit in a cycle, where each bit has a rank
abbrev pub node_number : ℕ → (ℕ → ℕ) → ℕ → ℕ → ℕ
node_number bits rank t b = t * bits + rank b

-- a gate's choice: a subset of its inputs that vary, at which its signed sum is not 0
pub record IsGateChoice (kind : Kind) (parts : List Part) (subset : Subset) : Type 0 where
  pub varies : IsSubsetOf subset (input_places kind parts)
  pub signed : signed_sum kind (input_places kind parts) subset ≢ pos 0

-- the set of a gate by its choice, where sets gives the sets of all nodes
pub record IsGateSet (sets : ℕ → Labels) (i : ℕ) (kind : Kind) (parts : List Part) (operands : List ℕ) : Type 0 where
  pub subset : Subset
  pub choice : IsGateChoice kind parts subset
  pub set : (l : ℕ) → sets i l ≡ chosen_set sets subset (input_places kind operands) l

-- the set of node i in a selection of nodes, where sets gives the sets of all nodes
abbrev pub IsNodeSet : (ℕ → Labels) → ℕ → Node → Type 0
IsNodeSet sets i Nothing = (l : ℕ) → sets i l ≡ false
IsNodeSet sets i (Label k) = (l : ℕ) → sets i l ≡ nat_eq k l
IsNodeSet sets i (Copy j) = (l : ℕ) → sets i l ≡ sets j l
IsNodeSet sets i (Gate kind parts operands) = IsGateSet sets i kind parts operands

-- a number is a choice for a node: for a gate, the places that are bits of the number vary and have a signed sum that
-- is not 0
abbrev pub IsAllowedChoice : ℕ → Node → Type 0
IsAllowedChoice number Nothing = Unit {0}
IsAllowedChoice number (Label k) = Unit {0}
IsAllowedChoice number (Copy j) = Unit {0}
IsAllowedChoice number (Gate kind parts operands) =
    (number < 2 ^ input_count kind) × IsGateChoice kind parts (subset_of_number (input_count kind) number)

-- the set that a node has by its choice's number, where sets gives the sets of all nodes
abbrev pub node_set : (ℕ → Labels) → ℕ → Node → Labels
node_set sets number Nothing l = false
node_set sets number (Label k) l = nat_eq k l
node_set sets number (Copy j) l = sets j l
node_set sets number (Gate kind parts operands) l =
    chosen_set sets (subset_of_number (input_count kind) number) (input_places kind operands) l

-- numbers that choose for every node, and the sets that they give
pub record IsNodeSelection (nodes : List Node) (numbers : List ℕ) (sets : ℕ → Labels) : Type 0 where
  pub as_long : length numbers ≡ length nodes
  pub allowed : (i : ℕ) → i < length nodes → IsAllowedChoice (get_or numbers i 0) (get_or nodes i Nothing)
  pub follows : (i : ℕ) → i < length nodes → (l : ℕ)
      → sets i l ≡ node_set sets (get_or numbers i 0) (get_or nodes i Nothing) l
