-- A cycle in which a walk stands, and what is made in it.
use Rattle.std.specs.Prelude.{◌≡◌, ℕ, suc, ◌*◌, ◌≤◌, List, map, Contains}
use Rattle.coco_base.specs.declared.netlist.FlatCell.{FlatCell}
use Rattle.coco_base.specs.declared.netlist.Wire.{Wire}
use Rattle.coco_base.specs.declared.setup.LeafPlan.{LeafPlan}
use Rattle.coco_base.specs.declared.setup.MemPlan.{MemPlan}
use Rattle.coco_base.specs.declared.unrolled.Node.{Node}
use Rattle.coco_model.specs.Carried.{start_word, stored_word}
use Rattle.coco_model.specs.Known.{Row, ones}
use Rattle.coco_model.specs.Netlist.{Valuation, IsCellBit, IsWireBelow, wires_of}
use Rattle.coco_model.specs.Nodes.{starting_nodes, wire_operand}
use Rattle.coco_model.specs.Roots.{Root, wire_root, IsSteady, HasCellRoot}
use Rattle.coco_model.specs.Run.{before}
use Rattle.coco_model.specs.Stepped.{row_of}
use Rattle.gate_graph.specs.Graphs.{Gates}
use Rattle.unroll.specs.NodeRows.{NodeRow, nodes_of, root_of, roots_of, leaf_root}
use Rattle.unroll.specs.NodeWords.{HoldsNodes}
use Rattle.unroll.specs.NodeWrites.{Write, writes_of_answer, writes_of_answers, writes_of_leaf, writes_of_leaves}
use Rattle.unroll.specs.RootedRuns.{RootedRun, number_in, node_words}
use Rattle.unroll.specs.Walks.{IsRunAt, IsDone, IsSized, AgreeOnLeaves, AreFirstLeaves, AreNextLeaves, AreLeaves, IsCellEntry, AreSettled}
use Rattle.unroll.specs.declared.cells.Entry.{Entry}
use Rattle.unroll.specs.declared.cycle.Moment.{Moment}
use Rattle.unroll.specs.declared.cycle.Walk.{Walk}
use Rattle.unroll.specs.declared.memory.Past.{Past}
use Rattle.unroll.specs.declared.origin.Origin.{Origin}

abbrev pub bits_in : Moment → ℕ
bits_in m = m.graph.now.flat.bits

-- what is known in the cycle, and in the one before
abbrev pub row_in : Moment → Row
row_in m = row_of m.known.now

abbrev pub row_before : Moment → Row
row_before m = row_of m.before.now

-- the bits that are known as 1 in the cycle before, and copies of its nodes
abbrev pub ones_of : Past → Valuation
ones_of past = ones (row_of past.parts.now)

abbrev pub copies_of : Past → NodeRow
copies_of past = nodes_of past.copies.now

-- what is written at answers and at word leaves, by the cycle before
abbrev pub answer_writes : Past → List Node → MemPlan → List Write
answer_writes past memory mem = writes_of_answer (ones_of past) (copies_of past) memory mem

abbrev pub answers_writes : Past → List Node → List MemPlan → List Write
answers_writes past memory mems = writes_of_answers (ones_of past) (copies_of past) memory mems

abbrev pub leaf_writes : Past → List MemPlan → LeafPlan → List Write
leaf_writes past mems leaf = writes_of_leaf (ones_of past) (copies_of past) mems leaf

abbrev pub leaves_writes : Past → List MemPlan → List LeafPlan → List Write
leaves_writes past mems leaves = writes_of_leaves (ones_of past) (copies_of past) mems leaves

-- what is stored in the cycle before at bit k of the word at an address, and else what was there
abbrev pub stored_by : Past → List MemPlan → ℕ → ℕ → Node → Node
stored_by past mems address k kept = stored_word starting_nodes (ones_of past) (copies_of past) mems address k kept

-- the operands of a gate by its wires
abbrev pub operands_in : Moment → List Wire → List ℕ
operands_in m wires = map (wire_operand (row_in m) (number_in m.graph.now m.cycle)) wires

-- there are at most 4,000,000 nodes up to the cycle
abbrev pub HasFewNodes : Moment → Type 0
HasFewNodes m = bits_in m * suc m.cycle ≤ 4000000

abbrev pub AreWiresBelow : ℕ → List Wire → Type 0
AreWiresBelow bits wires = (w : Wire) → Contains wires w → IsWireBelow bits w

-- the rows of the moment are those of a run
abbrev pub IsRunIn : Moment → RootedRun → Type 0
IsRunIn m run = IsRunAt m.graph.now m.setup.now m.cycle m.known.now m.before.now run

-- the roots of the cycle before, if there is one
abbrev pub AreOldRoots : RootedRun → ℕ → List Origin → Type 0
AreOldRoots run t old = (s : ℕ) → t ≡ suc s → (b : ℕ) → roots_of old b ≡ run.root s b

-- bits that no cell drives have their roots
abbrev pub AreLeafRoots : Gates → RootedRun → ℕ → List Origin → Type 0
AreLeafRoots gates run t roots = (b : ℕ) → (IsCellBit gates.flat b → ⊥) → roots_of roots b ≡ run.root t b

-- the nodes of bits that no cell drives have the bits' roots, where the roots of earlier nodes are told
abbrev pub AreRootedLeaves : Gates → RootedRun → ℕ → List Origin → List Node → Type 0
AreRootedLeaves gates run t origins now =
    (b : ℕ) → (IsCellBit gates.flat b → ⊥) → leaf_root (roots_of origins) (nodes_of now b) ≡ run.root t b

-- the wires that a cell reads have the roots of a cycle
abbrev pub HasInputRoots : (ℕ → Root) → (ℕ → Root) → FlatCell → Type 0
HasInputRoots told root c = (w : Wire) → Contains (wires_of c) w → wire_root told w ≡ wire_root root w

-- a wire is the same in the cycle before, by the roots that are told
abbrev pub IsSteadyIn : Moment → List Origin → List Origin → Wire → Type 0
IsSteadyIn m old roots w = IsSteady (row_before m) (row_in m) (roots_of old) (roots_of roots) w

-- and so is each input of a cell
abbrev pub AreSteadyIn : Moment → List Origin → List Origin → FlatCell → Type 0
AreSteadyIn m old roots c = (w : Wire) → Contains (wires_of c) w → IsSteadyIn m old roots w

-- a cell gets its node and its root, where its inputs have theirs
abbrev pub IsEntryOf : Moment → List Origin → List Origin → FlatCell → Entry → Type 0
IsEntryOf m old roots c entry =
    (run : RootedRun) → IsRunIn m run → AreOldRoots run m.cycle old
    → HasInputRoots (roots_of roots) (run.root m.cycle) c → HasCellRoot run.row run.root m.cycle c
    → IsCellEntry m.graph.now run m.cycle c entry.node (root_of entry.root)

-- all cells get their nodes and roots, where the leaves have their roots
abbrev pub IsSettledFrom : Moment → List Origin → List Origin → List Node → List Origin → Type 0
IsSettledFrom m old first now roots =
    (run : RootedRun) → IsRunIn m run → AreOldRoots run m.cycle old → AreLeafRoots m.graph.now run m.cycle first
    → AreSettled m.graph.now run m.cycle now roots

-- the same, where the leaves have their nodes
abbrev pub IsRowSettled : Moment → List Origin → List Origin → List Node → List Node → List Origin → Type 0
IsRowSettled m origins old leaves now roots =
    (run : RootedRun) → IsRunIn m run → AreOldRoots run m.cycle old
    → AreRootedLeaves m.graph.now run m.cycle origins leaves → AreSettled m.graph.now run m.cycle now roots

-- the leaves of the first cycle get their nodes
abbrev pub HasFirstLeaves : Moment → List Node → List Node → Type 0
HasFirstLeaves m words now =
    HoldsNodes words (start_word starting_nodes m.setup.now.table m.setup.now.words)
    → (node : NodeRow) → AgreeOnLeaves m.graph.now.flat node (nodes_of now)
    → AreFirstLeaves m.graph.now.flat m.setup.now node

-- and those of a later one
abbrev pub HasNextLeaves : Moment → Past → List Node → List Node → Type 0
HasNextLeaves m past words now =
    (word : ℕ → ℕ → Node) → HoldsNodes words word
    → (node : NodeRow) → AgreeOnLeaves m.graph.now.flat node (nodes_of now)
    → AreNextLeaves m.graph.now.flat m.setup.now m.cycle (row_of past.parts.now) (copies_of past) word node

-- the leaves of a cycle get their nodes, and the words those after it
abbrev pub HasLeaves : Moment → List Node → List Node → List Node → Type 0
HasLeaves m old_words words now =
    (run : RootedRun) → row_before m ≡ run.row (before m.cycle)
    → HoldsNodes old_words (node_words m.setup.now (number_in m.graph.now) run.row (before m.cycle))
    → AreLeaves m.graph.now m.setup.now run m.cycle words now

-- a walk gets the nodes and roots of the cycle
abbrev pub HasCycle : Moment → Walk → Walk → Type 0
HasCycle m old new =
    (run : RootedRun) → IsRunIn m run → IsDone m.graph.now m.setup.now run m.cycle old
    → IsDone m.graph.now m.setup.now run (suc m.cycle) new

-- lists stay as long as they are
abbrev pub KeepsSizes : Gates → Walk → Walk → Type 0
KeepsSizes gates old new = (cycles : ℕ) → IsSized gates cycles old → IsSized gates cycles new
