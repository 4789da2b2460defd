-- Rows of nodes that are written bit by bit, and what is written at the leaves of a cycle.
use Rattle.std.specs.Prelude.{◌≡◌, ℕ, suc, cond, nat_eq, false, List, [], ◌∷◌, length, map, flat_map, get_or, Contains}
use Rattle.coco_base.specs.declared.labels.LabelTable.{LabelTable}
use Rattle.coco_base.specs.declared.netlist.FlatFlop.{FlatFlop}
use Rattle.coco_base.specs.declared.setup.Start.{Start}
use Rattle.coco_base.specs.declared.setup.Start.TheVariants.{Public}
use Rattle.coco_base.specs.declared.setup.EchoPlan.{EchoPlan}
use Rattle.coco_base.specs.declared.setup.InputPlan.{InputPlan}
use Rattle.coco_base.specs.declared.setup.LeafPlan.{LeafPlan}
use Rattle.coco_base.specs.declared.setup.MemPlan.{MemPlan}
use Rattle.coco_base.specs.declared.unrolled.Node.{Node}
use Rattle.coco_model.specs.Carried.{start_state, entry_of, is_read, word_address, stored_word, IsLabelled}
use Rattle.coco_model.specs.Netlist.{Valuation}
use Rattle.coco_model.specs.Nodes.{starting_nodes}
use Rattle.unroll.specs.NodeRows.{NodeRow, nodes_of, wire_node}
use Rattle.unroll.specs.NodeWords.{word_node}

-- a bit, and the node that is written there
pub record Write : Type 0 where
  pub bit : ℕ
  pub node : Node

abbrev pub put : NodeRow → Write → NodeRow
put row w b = cond (nat_eq w.bit b) w.node (row b)

-- a row after writes in their order
abbrev pub after_writes : List Write → NodeRow → NodeRow
after_writes [] row b = row b
after_writes (w ∷ ws) row b = after_writes ws (put row w) b

pub record IsWritten (writes : List Write) (old new : List Node) : Type 0 where
  pub as_long : length new ≡ length old
  pub bits : (b : ℕ) → nodes_of new b ≡ after_writes writes (nodes_of old) b

-- a function of the place and the bit, written at bits from a place on
abbrev pub bit_writes : (ℕ → ℕ → Node) → ℕ → List ℕ → List Write
bit_writes node place [] = []
bit_writes node place (b ∷ bs) = record { bit = b; node = node place b } ∷ bit_writes node (suc place) bs

-- an input has its entry of the cycle
abbrev pub input_write : LabelTable → ℕ → InputPlan → Write
input_write table cycle p =
    record { bit = p.bit; node = start_state starting_nodes table cycle (entry_of p.values cycle) }

-- an echo has a copy of its source
abbrev pub echo_write : NodeRow → EchoPlan → Write
echo_write old e = record { bit = e.bit; node = wire_node old e.source }

-- a flop has a copy of its next wire
abbrev pub flop_write : NodeRow → FlatFlop → Write
flop_write old f = record { bit = f.output; node = wire_node old f.next }

-- a flop has its start
abbrev pub start_write : LabelTable → List Start → FlatFlop → Write
start_write table starts f =
    record { bit = f.output; node = start_state starting_nodes table 0 (get_or starts f.output (Public false)) }

-- bit k of an answer has what the word that was read holds, and else a copy of itself
abbrev pub answer_node : Valuation → NodeRow → List Node → MemPlan → ℕ → ℕ → Node
answer_node v old memory mem k b = cond (is_read v mem) (word_node memory (word_address v mem) k) (old b)

-- what is written at the answer of a memory port, and at the answers of several
abbrev pub writes_of_answer : Valuation → NodeRow → List Node → MemPlan → List Write
writes_of_answer v old memory mem = bit_writes (answer_node v old memory mem) 0 mem.answer

abbrev pub writes_of_answers : Valuation → NodeRow → List Node → List MemPlan → List Write
writes_of_answers v old memory mems = flat_map (writes_of_answer v old memory) mems

-- what is written in the first cycle at the bits of a word that is a leaf, and at those of several
abbrev pub writes_of_word : List Node → LeafPlan → List Write
writes_of_word memory leaf = bit_writes (λ k b. word_node memory leaf.address k) 0 leaf.bits

abbrev pub writes_of_words : List Node → List LeafPlan → List Write
writes_of_words memory leaves = flat_map (writes_of_word memory) leaves

-- and in a later cycle: a copy of what was stored there, and else of itself
abbrev pub writes_of_leaf : Valuation → NodeRow → List MemPlan → LeafPlan → List Write
writes_of_leaf v old mems leaf =
    bit_writes (λ k b. stored_word starting_nodes v old mems leaf.address k (old b)) 0 leaf.bits

abbrev pub writes_of_leaves : Valuation → NodeRow → List MemPlan → List LeafPlan → List Write
writes_of_leaves v old mems leaves = flat_map (writes_of_leaf v old mems) leaves

-- flops start with labels of a table, or with public bits
abbrev pub AreFlopsLabelled : LabelTable → List Start → List FlatFlop → Type 0
AreFlopsLabelled table starts flops =
    (f : FlatFlop) → Contains flops f → IsLabelled table (get_or starts f.output (Public false))

-- what is written at flops in the first cycle
abbrev pub writes_of_starts : LabelTable → List Start → List FlatFlop → List Write
writes_of_starts table starts flops = map (start_write table starts) flops
