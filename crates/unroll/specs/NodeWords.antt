-- The nodes of the memory's words, as one list of those of their bits.
use Rattle.std.specs.Prelude.{◌≡◌, ℕ, false, ◌+◌, ◌/◌, ◌<◌, ◌≤◌, ◌⊎◌, cond, List, length, get_or, Contains}
use Rattle.coco_base.specs.declared.netlist.Wire.TheVariants.{Const}
use Rattle.coco_base.specs.declared.setup.MemPlan.{MemPlan}
use Rattle.coco_base.specs.declared.labels.LabelTable.{LabelTable}
use Rattle.coco_base.specs.declared.setup.Start.{Start}
use Rattle.coco_base.specs.declared.setup.Start.TheVariants.{Public}
use Rattle.coco_base.specs.declared.setup.WordPlan.{WordPlan}
use Rattle.coco_base.specs.declared.unrolled.Node.{Node}
use Rattle.coco_model.specs.Carried.{start_state, stored_word, IsLabelled}
use Rattle.coco_model.specs.Known.{Row, ones}
use Rattle.coco_model.specs.Netlist.{wire_value}
use Rattle.coco_model.specs.Nodes.{starting_nodes}
use Rattle.coco_model.specs.Setups.{IsWordAddress}
use Rattle.cycle_sim.specs.Memories.{word_bits, word_place}
use Rattle.unroll.specs.NodeRows.{NodeRow, nodes_of, wire_node}

-- what a list holds as the node of bit k of the word at an address
abbrev pub word_node : List Node → ℕ → ℕ → Node
word_node memory address k = nodes_of memory (word_place address + k)

-- a list holds the nodes of the words of both regions
pub record HoldsNodes (memory : List Node) (word : ℕ → ℕ → Node) : Type 0 where
  pub as_long : length memory ≡ word_bits
  pub each : (address k : ℕ) → IsWordAddress address → k < 32 → word_node memory address k ≡ word address k

-- a list after so many nodes were written from a place on
pub record IsPlaced (place count : ℕ) (node : ℕ → Node) (old new : List Node) : Type 0 where
  pub as_long : length new ≡ length old
  pub inside : (k : ℕ) → k < count → nodes_of new (place + k) ≡ node k
  pub outside : (i : ℕ) → (i < place) ⊎ (place + count ≤ i) → nodes_of new i ≡ nodes_of old i

-- what a memory port leaves at bit k of the word that starts at a place: a copy of its value's bit where the enable of
-- the byte is 1, and else what is there
abbrev pub port_node : Row → NodeRow → MemPlan → ℕ → List Node → ℕ → Node
port_node row copies mem place memory k =
    cond (wire_value (ones row) (get_or mem.enables (k / 8) (Const false)))
    (wire_node copies (get_or mem.value k (Const false))) (nodes_of memory (place + k))

-- starts name labels of a table, or are public
abbrev pub AreLabelled : LabelTable → List Start → Type 0
AreLabelled table starts = (s : Start) → Contains starts s → IsLabelled table s

-- the node that bit k of a word starts with, by the starts of its bits
abbrev pub plan_node : LabelTable → List Start → ℕ → Node
plan_node table bits k = start_state starting_nodes table 0 (get_or bits k (Public false))

-- what a memory port leaves was written at a place
abbrev pub IsPortPlaced : Row → NodeRow → MemPlan → ℕ → List Node → List Node → Type 0
IsPortPlaced row copies mem place old new = IsPlaced place 32 (port_node row copies mem place old) old new

-- the nodes of a word's starts were written at its place
abbrev pub IsWordPlaced : LabelTable → WordPlan → List Node → List Node → Type 0
IsWordPlaced table w old new = IsPlaced (word_place w.address) 32 (plan_node table w.bits) old new

-- what memory ports write in a cycle was stored: of whatever words a list held, it holds what is stored of them
abbrev pub AreStored : Row → NodeRow → List MemPlan → List Node → List Node → Type 0
AreStored row copies mems old new =
    (word : ℕ → ℕ → Node) → HoldsNodes old word
    → HoldsNodes new (λ address k. stored_word starting_nodes (ones row) copies mems address k (word address k))
