-- What is known of a run and its roots, and the nodes of a cycle.
use Rattle.std.specs.Prelude.{ℕ, zero, suc, Contains}
use Rattle.coco_base.specs.declared.netlist.Flat.{Flat}
use Rattle.coco_base.specs.declared.netlist.FlatCell.{FlatCell}
use Rattle.coco_base.specs.declared.setup.Setup.{Setup}
use Rattle.coco_base.specs.declared.unrolled.Node.{Node}
use Rattle.coco_model.specs.Carried.{start_word, stored_word, IsGiven, IsFirst, IsNext}
use Rattle.coco_model.specs.Known.{Row, ones}
use Rattle.coco_model.specs.Nodes.{node_number, starting_nodes, HasCellNode}
use Rattle.coco_model.specs.Roots.{Root}
use Rattle.gate_graph.specs.Graphs.{Gates, rank_in}
use Rattle.unroll.specs.NodeRows.{NodeRow, copies, HasFourPlaces}

-- what is known of the bits and of the memory's words in each cycle, and their roots
pub record RootedRun : Type 0 where
  pub row : ℕ → Row
  pub word : ℕ → ℕ → Row
  pub root : ℕ → ℕ → Root
  pub rooted : ℕ → ℕ → ℕ → Root

-- the number of the node of a bit in a cycle
abbrev pub number_in : Gates → ℕ → ℕ → ℕ
number_in gates = node_number gates.flat.bits (rank_in gates)

-- the nodes of the bits of memory words in a cycle: those of their starts, and copies of what was stored
abbrev pub node_words : Setup → (ℕ → ℕ → ℕ) → (ℕ → Row) → ℕ → ℕ → ℕ → Node
node_words setup index row zero address k = start_word starting_nodes setup.table setup.words address k
node_words setup index row (suc t) address k =
    stored_word starting_nodes (ones (row t)) (copies (index t) (row t)) setup.memories address k
    (node_words setup index row t address k)

-- the nodes of the leaves of a cycle: starts in the first, and copies of their sources in a later one
abbrev pub HasLeafNodes : Flat → Setup → (ℕ → ℕ → ℕ) → (ℕ → Row) → ℕ → NodeRow → Type 0
HasLeafNodes flat setup index row zero node =
    IsFirst starting_nodes flat setup node (node_words setup index row 0)
HasLeafNodes flat setup index row (suc t) node =
    IsNext starting_nodes flat setup (ones (row t)) (copies (index t) (row t)) (node_words setup index row t) node
    (node_words setup index row (suc t))

-- the nodes of a cycle
pub record AreNodesIn (flat : Flat) (setup : Setup) (index : ℕ → ℕ → ℕ) (run : RootedRun) (t : ℕ)
    (node : NodeRow) : Type 0 where
  pub cells : (c : FlatCell) → Contains flat.cells c → HasCellNode index run.row run.root t c (node c.output)
  pub places : (c : FlatCell) → Contains flat.cells c → HasFourPlaces (node c.output)
  pub given : IsGiven starting_nodes flat setup t node
  pub leaves : HasLeafNodes flat setup index run.row t node
