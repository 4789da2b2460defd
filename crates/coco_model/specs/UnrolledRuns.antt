-- Unrolled runs as values, and what is known of a bit by its node.
use Rattle.std.specs.Prelude.{◌≡◌, ◌≢◌, ℕ, ◌*◌, ◌<◌, ◌≤◌, List, length, get_or, Option}
use Rattle.coco_base.specs.declared.netlist.Flat.{Flat}
use Rattle.coco_base.specs.declared.cell.Kind.{Kind}
use Rattle.coco_base.specs.declared.cell.Part.{Part}
use Rattle.coco_base.specs.declared.cell.Part.TheVariants.{Zero, Vary}
use Rattle.coco_base.specs.declared.setup.Setup.{Setup}
use Rattle.coco_base.specs.declared.unrolled.Node.{Node}
use Rattle.coco_base.specs.declared.unrolled.Node.TheVariants.{Nothing, Label, Copy, Gate}
use Rattle.coco_base.specs.declared.unrolled.Unrolled.{Unrolled}
use Rattle.coco_model.specs.Cells.{input_count}
use Rattle.coco_model.specs.Netlist.{IsCellBit}
use Rattle.coco_model.specs.Labels.{label_count, IsLabelTable}
use Rattle.coco_model.specs.Known.{Row}
use Rattle.coco_model.specs.Reach.{Reach}
use Rattle.coco_model.specs.Roots.{Root, IsRooted}
use Rattle.coco_model.specs.Nodes.{node_number, IsUnrolled}
use Rattle.coco_model.specs.WrittenFindings.{ProbedRun, IsNoGate}
use Rattle.coco_model.specs.Stepped.{IsStepped}

abbrev pub rank_of : List ℕ → ℕ → ℕ
rank_of ranks b = get_or ranks b 0

-- the number of the node of a bit in a cycle
abbrev pub index_of : Unrolled → ℕ → ℕ → ℕ
index_of u = node_number u.bits (rank_of u.ranks)

abbrev pub node_at : Unrolled → ℕ → Node
node_at u i = get_or u.nodes i Nothing

-- the inputs of gate node i: no place behind those of the kind varies, and the operand at an input that varies is an
-- earlier node that is not nothing
pub record AreEarlierOperands (u : Unrolled) (i : ℕ) (kind : Kind) (parts : List Part)
    (operands : List ℕ) : Type 0 where
  pub parts_long : length parts ≡ 4
  pub operands_long : length operands ≡ 4
  pub others : (j : ℕ) → input_count kind ≤ j → get_or parts j Zero ≡ Zero
  pub earlier : (j : ℕ) → get_or parts j Zero ≡ Vary → get_or operands j 0 < i
  pub something : (j : ℕ) → get_or parts j Zero ≡ Vary → node_at u (get_or operands j 0) ≢ Nothing

-- a node of an unrolled run: labels are the run's, copies and operands are earlier nodes that are not nothing
abbrev pub IsGoodNode : Unrolled → ℕ → Node → Type 0
IsGoodNode u i Nothing = Unit {0}
IsGoodNode u i (Label l) = l < label_count u.table u.cycles
IsGoodNode u i (Copy j) = (j < i) × (node_at u j ≢ Nothing)
IsGoodNode u i (Gate kind parts operands) = AreEarlierOperands u i kind parts operands

-- what every unrolled run keeps, whatever it was made of; the ranks are a permutation of the bits
pub record IsUnrolledValue (u : Unrolled) : Type 0 where
  pub table : IsLabelTable u.table
  pub as_long : length u.nodes ≡ u.bits * u.cycles
  pub ranks_long : length u.ranks ≡ u.bits
  pub ranks_below : (b : ℕ) → b < u.bits → rank_of u.ranks b < u.bits
  pub ranks_apart : (b c : ℕ) → b < u.bits → c < u.bits → rank_of u.ranks b ≡ rank_of u.ranks c → b ≡ c
  pub nodes : (i : ℕ) → i < length u.nodes → IsGoodNode u i (node_at u i)

-- an unrolled run has the bits and ranks of a netlist, and the node of a bit that no cell drives is no gate
pub record IsUnrolledFor (flat : Flat) (ranks : List ℕ) (u : Unrolled) : Type 0 where
  pub bits : u.bits ≡ flat.bits
  pub same_ranks : u.ranks ≡ ranks
  pub leaves : (t b : ℕ) → t < u.cycles → b < u.bits → (IsCellBit flat b → ⊥) → IsNoGate (node_at u (index_of u t b))

-- the unrolled run of a netlist and a setup, in which no cycle has a fault
pub record IsUnrolledOf (flat : Flat) (setup : Setup) (cycles : ℕ) (u : Unrolled) : Type 0 where
  pub row : ℕ → Row
  pub word : ℕ → ℕ → Row
  pub root : ℕ → ℕ → Root
  pub rooted : ℕ → ℕ → ℕ → Root
  pub node : ℕ → ℕ → Node
  pub node_word : ℕ → ℕ → ℕ → Node
  pub stepped : IsStepped flat setup cycles row word
  pub roots : IsRooted flat setup cycles row root rooted
  pub unrolled : IsUnrolled flat setup cycles (index_of u) row root node node_word
  pub listed : (t b : ℕ) → t < cycles → b < flat.bits → node_at u (index_of u t b) ≡ node t b
  pub bits : u.bits ≡ flat.bits
  pub is_cycles : u.cycles ≡ cycles
  pub same_table : u.table ≡ setup.table
  pub good : IsUnrolledValue u

-- what a node tells of its bit: that it is known where the node is nothing, though not its value, and else that it varies
abbrev pub node_part : Node → Part
node_part Nothing = Zero
node_part (Label l) = Vary
node_part (Copy j) = Vary
node_part (Gate kind parts operands) = Vary

abbrev pub node_row : Unrolled → ℕ → Row
node_row u t b = node_part (node_at u (index_of u t b))

-- an unrolled run with a clock, a window and what probes reach: all that a finding as a value speaks of
abbrev pub probed_run : Unrolled → Option ℕ → ℕ → Reach → ProbedRun
probed_run u clock window reach = record {
  bits = u.bits;
  cycles = u.cycles;
  clock = clock;
  table = u.table;
  window = window;
  row = node_row u;
  reach = reach;
  index = index_of u;
  nodes = u.nodes;
}
