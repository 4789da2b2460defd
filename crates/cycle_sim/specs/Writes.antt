-- Rows that are written bit by bit, and what is written at the leaves of a cycle.
use Rattle.std.specs.Prelude.{◌≡◌, ℕ, suc, ◌<◌, ◌≤◌, cond, nat_eq, List, [], ◌∷◌, length, map, flat_map, get_or, Contains}
use Rattle.coco_base.specs.declared.cell.Part.{Part}
use Rattle.coco_base.specs.declared.labels.LabelTable.{LabelTable}
use Rattle.coco_base.specs.declared.netlist.FlatFlop.{FlatFlop}
use Rattle.coco_base.specs.declared.setup.Start.{Start}
use Rattle.coco_base.specs.declared.setup.Start.TheVariants.{Public}
use Rattle.coco_base.specs.declared.setup.EchoPlan.{EchoPlan}
use Rattle.coco_base.specs.declared.setup.InputPlan.{InputPlan}
use Rattle.coco_base.specs.declared.setup.LeafPlan.{LeafPlan}
use Rattle.coco_base.specs.declared.setup.MemPlan.{MemPlan}
use Rattle.coco_model.specs.Carried.{start_state, entry_of, is_read, word_address}
use Rattle.coco_model.specs.Controls.{IsOutside}
use Rattle.coco_model.specs.Known.{Row, ones, parts, wire_part}
use Rattle.coco_model.specs.Setups.{IsWordAddress}
use Rattle.coco_model.specs.Stepped.{row_of}
use Rattle.cycle_sim.specs.Memories.{word_part}
use Rattle.std.specs.Prelude.{false}

-- a bit, and the part that is written there
pub record Write : Type 0 where
  pub bit : ℕ
  pub part : Part

abbrev pub put : Row → Write → Row
put row w b = cond (nat_eq w.bit b) w.part (row b)

-- a row after writes in their order
abbrev pub after_writes : List Write → Row → Row
after_writes [] row b = row b
after_writes (w ∷ ws) row b = after_writes ws (put row w) b

pub record IsWritten (writes : List Write) (old new : List Part) : Type 0 where
  pub as_long : length new ≡ length old
  pub bits : (b : ℕ) → row_of new b ≡ after_writes writes (row_of old) b

-- a function of the place and the bit, written at bits from a place on
abbrev pub bit_writes : (ℕ → ℕ → Part) → ℕ → List ℕ → List Write
bit_writes part place [] = []
bit_writes part place (b ∷ bs) = record { bit = b; part = part place b } ∷ bit_writes part (suc place) bs

abbrev pub AreBitsBelow : ℕ → List ℕ → Type 0
AreBitsBelow bits bs = (b : ℕ) → Contains bs b → b < bits

-- an input has its entry of the cycle
abbrev pub input_write : LabelTable → ℕ → InputPlan → Write
input_write table cycle p = record { bit = p.bit; part = start_state parts table cycle (entry_of p.values cycle) }

-- an echo has what its source had
abbrev pub echo_write : Row → EchoPlan → Write
echo_write old e = record { bit = e.bit; part = wire_part old e.source }

-- a flop has what its next wire had
abbrev pub flop_write : Row → FlatFlop → Write
flop_write old f = record { bit = f.output; part = wire_part old f.next }

-- a flop has its start
abbrev pub start_write : LabelTable → List Start → FlatFlop → Write
start_write table starts f =
    record { bit = f.output; part = start_state parts table 0 (get_or starts f.output (Public false)) }

-- bit k of an answer has what the word that was read holds, and else what it had
abbrev pub answer_part : Row → List Part → MemPlan → ℕ → ℕ → Part
answer_part old memory mem k b =
    cond (is_read (ones old) mem) (word_part memory (word_address (ones old) mem) k) (old b)

-- what is written at the answer of a memory port, and at the answers of several
abbrev pub writes_of_answer : Row → List Part → MemPlan → List Write
writes_of_answer old memory mem = bit_writes (answer_part old memory mem) 0 mem.answer

abbrev pub writes_of_answers : Row → List Part → List MemPlan → List Write
writes_of_answers old memory mems = flat_map (writes_of_answer old memory) mems

-- what is written at the bits of a word that is a leaf, and at those of several
abbrev pub writes_of_leaf : List Part → LeafPlan → List Write
writes_of_leaf memory leaf = bit_writes (λ k b. word_part memory leaf.address k) 0 leaf.bits

abbrev pub writes_of_leaves : List Part → List LeafPlan → List Write
writes_of_leaves memory leaves = flat_map (writes_of_leaf memory) leaves

-- what is written at flops in the first cycle
abbrev pub writes_of_starts : LabelTable → List Start → List FlatFlop → List Write
writes_of_starts table starts flops = map (start_write table starts) flops

-- a memory port whose answer can be written: its request, if any, is inside the regions
pub record IsAnswerPort (bits : ℕ) (old : Row) (mem : MemPlan) : Type 0 where
  pub address : length mem.address ≤ 32
  pub answer : length mem.answer ≡ 32
  pub below : AreBitsBelow bits mem.answer
  pub inside : IsOutside old mem → ⊥

-- a word that is a leaf, with bits in range
pub record IsLeafWord (bits : ℕ) (leaf : LeafPlan) : Type 0 where
  pub bits_are : length leaf.bits ≡ 32
  pub address : IsWordAddress leaf.address
  pub below : AreBitsBelow bits leaf.bits
