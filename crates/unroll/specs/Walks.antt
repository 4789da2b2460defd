-- A walk over the cycles of a run: the nodes and roots so far.
use Rattle.std.specs.Prelude.{◌≡◌, ℕ, suc, ◌*◌, ◌<◌, ◌≤◌, ◌⊎◌, cond, nat_lt, List, length, get_or, Contains, None}
use Rattle.coco_base.specs.declared.cell.Part.{Part}
use Rattle.coco_base.specs.declared.netlist.Flat.{Flat}
use Rattle.coco_base.specs.declared.netlist.FlatCell.{FlatCell}
use Rattle.coco_base.specs.declared.setup.Setup.{Setup}
use Rattle.coco_base.specs.declared.unrolled.Node.{Node}
use Rattle.coco_base.specs.declared.unrolled.Node.TheVariants.{Nothing, Label, Copy, Gate}
use Rattle.coco_model.specs.Carried.{start_word, stored_word, IsGiven, IsFirst, IsNext}
use Rattle.coco_model.specs.Known.{Row, ones, IsKnown}
use Rattle.coco_model.specs.Netlist.{IsCellBit}
use Rattle.coco_model.specs.Nodes.{starting_nodes, HasCellNode}
use Rattle.coco_model.specs.Roots.{Root, IsRooted}
use Rattle.coco_model.specs.Roots.Root.{nothing, label}
use Rattle.coco_model.specs.Run.{before}
use Rattle.coco_model.specs.Stepped.{HasNoFault, row_of}
use Rattle.model_laws.specs.Laws.{IsChecked}
use Rattle.gate_graph.specs.Graphs.{Gates, rank_in}
use Rattle.cycle_sim.specs.Memories.{word_bits}
use Rattle.cycle_sim.specs.Simulations.{Simulation}
use Rattle.unroll.specs.NodeRows.{NodeRow, nodes_of, roots_of, HasFourPlaces}
use Rattle.unroll.specs.NodeWords.{HoldsNodes}
use Rattle.unroll.specs.RootedRuns.{RootedRun, number_in, node_words, HasLeafNodes, AreNodesIn}
use Rattle.unroll.specs.declared.cycle.Walk.{Walk}
use Rattle.unroll.specs.declared.origin.Origin.{Origin}

-- a run is known up to cycle t, with known controls, and rows tell what is known in this cycle and in the one before
pub record IsRunAt (gates : Gates) (setup : Setup) (t : ℕ) (known old : List Part) (run : RootedRun) : Type 0 where
  pub checked : IsChecked gates.flat setup (suc t) (rank_in gates) run.row run.word
  pub roots : IsRooted gates.flat setup (suc t) run.row run.root run.rooted
  pub now : row_of known ≡ run.row t
  pub earlier : row_of old ≡ run.row (before t)

-- the nodes of a cycle in the list of all nodes
abbrev pub listed_row : Gates → List Node → ℕ → NodeRow
listed_row gates nodes t b = cond (nat_lt b gates.flat.bits) (nodes_of nodes (number_in gates t b)) Nothing

-- a number is that of a node of the first cycles
pub record IsNumbered (gates : Gates) (cycles i : ℕ) : Type 0 where
  pub cycle : ℕ
  pub bit : ℕ
  pub earlier : cycle < cycles
  pub inside : bit < gates.flat.bits
  pub number : i ≡ number_in gates cycle bit

-- lists that are as long as a netlist and so many cycles ask
pub record IsSized (gates : Gates) (cycles : ℕ) (walk : Walk) : Type 0 where
  pub nodes : length walk.nodes.items ≡ gates.flat.bits * cycles
  pub origins : length walk.origins.items ≡ gates.flat.bits * cycles
  pub words : length walk.words.items ≡ word_bits
  pub copies : length walk.copies.items ≡ gates.flat.bits
  pub now : length walk.now.items ≡ gates.flat.bits
  pub earlier : length walk.earlier.items ≡ gates.flat.bits
  pub roots : length walk.roots.items ≡ gates.flat.bits

-- lists that are long enough for the nodes of cycle t
pub record HasRoom (gates : Gates) (t : ℕ) (walk : Walk) : Type 0 where
  pub nodes : gates.flat.bits * suc t ≤ length walk.nodes.items
  pub origins : gates.flat.bits * suc t ≤ length walk.origins.items
  pub words : length walk.words.items ≡ word_bits
  pub copies : length walk.copies.items ≡ gates.flat.bits
  pub now : length walk.now.items ≡ gates.flat.bits
  pub earlier : length walk.earlier.items ≡ gates.flat.bits
  pub roots : length walk.roots.items ≡ gates.flat.bits

-- the node of a leaf stands for its root: for nothing, for a label, or as a copy of a node of the first t cycles whose
-- bit has the root
abbrev pub StandsFor : Gates → RootedRun → ℕ → Node → Root → Type 0
StandsFor gates run t Nothing r = r ≡ nothing
StandsFor gates run t (Label l) r = r ≡ label l
StandsFor gates run t (Copy j) r =
    (s : ℕ) × (b : ℕ) × (s < t) × (b < gates.flat.bits) × (j ≡ number_in gates s b) × (r ≡ run.root s b)
StandsFor gates run t (Gate kind parts operands) r = ⊥

-- lists have the nodes and roots of the first t cycles of a run, and of the last of them the nodes of the words and the
-- roots of the bits; all other nodes are still nothing
pub record AreWalked (gates : Gates) (setup : Setup) (run : RootedRun) (t : ℕ) (nodes : List Node)
    (origins : List Origin) (words : List Node) (roots : List Origin) : Type 0 where
  pub nodes_are : (s : ℕ) → s < t
      → AreNodesIn gates.flat setup (number_in gates) run s (listed_row gates nodes s)
  pub origins_are : (s b : ℕ) → s < t → b < gates.flat.bits → roots_of origins (number_in gates s b) ≡ run.root s b
  pub last : (s : ℕ) → t ≡ suc s → (b : ℕ) → roots_of roots b ≡ run.root s b
  pub words_are : HoldsNodes words (node_words setup (number_in gates) run.row (before t))
  pub word_roots : (s : ℕ) → t ≡ suc s → (address k : ℕ)
      → StandsFor gates run s (node_words setup (number_in gates) run.row s address k) (run.rooted s address k)
  pub others : (i : ℕ) → (nodes_of nodes i ≡ Nothing) ⊎ IsNumbered gates t i

abbrev pub IsDone : Gates → Setup → RootedRun → ℕ → Walk → Type 0
IsDone gates setup run t walk =
    AreWalked gates setup run t walk.nodes.items walk.origins.items walk.words.items walk.roots.items

-- two rows of nodes are the same where no cell drives the bit
abbrev pub AgreeOnLeaves : Flat → NodeRow → NodeRow → Type 0
AgreeOnLeaves flat one other = (b : ℕ) → (IsCellBit flat b → ⊥) → one b ≡ other b

-- the nodes of the leaves of the first cycle
pub record AreFirstLeaves (flat : Flat) (setup : Setup) (node : NodeRow) : Type 0 where
  pub given : IsGiven starting_nodes flat setup 0 node
  pub first : IsFirst starting_nodes flat setup node (start_word starting_nodes setup.table setup.words)

-- the nodes of the leaves of cycle t, where so much is known of the cycle before, with these copies and words
pub record AreNextLeaves (flat : Flat) (setup : Setup) (t : ℕ) (row : Row) (copied : NodeRow) (word : ℕ → ℕ → Node)
    (node : NodeRow) : Type 0 where
  pub given : IsGiven starting_nodes flat setup t node
  pub next : IsNext starting_nodes flat setup (ones row) copied word node
      (λ address k. stored_word starting_nodes (ones row) copied setup.memories address k (word address k))

-- the nodes of the leaves and of the words of a cycle
pub record AreLeaves (gates : Gates) (setup : Setup) (run : RootedRun) (t : ℕ) (words now : List Node) : Type 0 where
  pub words_are : HoldsNodes words (node_words setup (number_in gates) run.row t)
  pub given : (node : NodeRow) → AgreeOnLeaves gates.flat node (nodes_of now)
      → IsGiven starting_nodes gates.flat setup t node
  pub leaves : (node : NodeRow) → AgreeOnLeaves gates.flat node (nodes_of now)
      → HasLeafNodes gates.flat setup (number_in gates) run.row t node

-- the node and the root of a cell's output in a cycle
pub record IsCellEntry (gates : Gates) (run : RootedRun) (t : ℕ) (c : FlatCell) (node : Node)
    (root : Root) : Type 0 where
  pub node_is : HasCellNode (number_in gates) run.row run.root t c node
  pub places : HasFourPlaces node
  pub root_is : root ≡ run.root t c.output

-- all bits have their roots in a cycle, and all cells their nodes
pub record AreSettled (gates : Gates) (run : RootedRun) (t : ℕ) (now : List Node) (origins : List Origin) : Type 0 where
  pub cells : (c : FlatCell) → Contains gates.flat.cells c
      → HasCellNode (number_in gates) run.row run.root t c (nodes_of now c.output)
  pub places : (c : FlatCell) → Contains gates.flat.cells c → HasFourPlaces (nodes_of now c.output)
  pub roots : (b : ℕ) → roots_of origins b ≡ run.root t b

-- the bits below a number were written at the numbers of their nodes in a cycle
pub record AreNumbered {X : Type 0} (none : X) (gates : Gates) (t count : ℕ) (row old new : List X) : Type 0 where
  pub as_long : length new ≡ length old
  pub placed : (b : ℕ) → b < count → get_or new (number_in gates t b) none ≡ get_or row b none
  pub others : (i : ℕ) → (get_or new i none ≡ get_or old i none) ⊎ IsNumbered gates (suc t) i
  pub earlier : (i : ℕ) → i < gates.flat.bits * t → get_or new i none ≡ get_or old i none

-- what is known over so many cycles, and the roots
pub record IsRunTo (gates : Gates) (setup : Setup) (cycles : ℕ) (run : RootedRun) : Type 0 where
  pub known : IsKnown gates.flat setup cycles run.row run.word
  pub roots : IsRooted gates.flat setup cycles run.row run.root run.rooted

-- a list has the nodes of all cycles of a run, and nothing else
pub record AreAllNodes (gates : Gates) (setup : Setup) (cycles : ℕ) (run : RootedRun) (nodes : List Node) : Type 0 where
  pub nodes_are : (t : ℕ) → t < cycles
      → AreNodesIn gates.flat setup (number_in gates) run t (listed_row gates nodes t)
  pub others : (i : ℕ) → (nodes_of nodes i ≡ Nothing) ⊎ IsNumbered gates cycles i

-- a list has the nodes of the run, in which no cycle has a fault
pub record HasNodes (gates : Gates) (setup : Setup) (cycles : ℕ) (nodes : List Node) : Type 0 where
  pub as_long : length nodes ≡ gates.flat.bits * cycles
  pub no_fault : HasNoFault gates.flat setup cycles
  pub all : (run : RootedRun) → IsRunTo gates setup cycles run → AreAllNodes gates setup cycles run nodes

-- a simulation stands before the cycle of a number, past good ones
pub record IsStanding (gates : Gates) (setup : Setup) (cycle : ℕ) (sim : Simulation) : Type 0 where
  pub gates_are : sim.gates ≡ gates
  pub setup_is : sim.setup ≡ setup
  pub cycles_are : sim.cycles ≡ cycle
  pub no_fault : sim.fault ≡ None

-- the lists of a walk as it was and with one cycle more, for every run
abbrev pub IsOneMore : Gates → Setup → ℕ → Walk → Walk → Type 0
IsOneMore gates setup t old new =
    (run : RootedRun) → IsRunTo gates setup (suc t) run → IsDone gates setup run t old
    → IsDone gates setup run (suc t) new
