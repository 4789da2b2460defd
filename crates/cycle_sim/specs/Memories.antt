-- The words of the memory as one list of their bits.
use Rattle.std.specs.Prelude.{◌≡◌, ℕ, false, ◌+◌, ◌-◌, ◌*◌, ◌/◌, ◌<◌, ◌≤◌, ◌⊎◌, cond, nat_lt, List, length, get_or}
use Rattle.coco_base.specs.declared.cell.Part.{Part}
use Rattle.coco_base.specs.declared.netlist.Wire.TheVariants.{Const}
use Rattle.coco_base.specs.declared.setup.MemPlan.{MemPlan}
use Rattle.coco_base.specs.declared.labels.LabelTable.{LabelTable}
use Rattle.coco_base.specs.declared.setup.Start.{Start}
use Rattle.coco_base.specs.declared.setup.Start.TheVariants.{Public}
use Rattle.coco_base.specs.declared.setup.WordPlan.{WordPlan}
use Rattle.coco_model.specs.Carried.{start_state, stored_word}
use Rattle.coco_model.specs.Netlist.{wire_value}
use Rattle.coco_model.specs.Known.{Row, ones, parts, wire_part}
use Rattle.coco_model.specs.Setups.{IsWordAddress}
use Rattle.coco_model.specs.Stepped.{row_of}

-- the number of bits of 4,096 words of text and 1,024 words of data
abbrev pub word_bits : ℕ
word_bits = 163840

-- the place of the first bit of the word at an address of a region: the words of text by address, then those of data
abbrev pub word_place : ℕ → ℕ
word_place address =
    cond (nat_lt address 0x10000) (32 * (address / 4)) (32 * ((0x4000 + (address - 0x10000)) / 4))

-- what a list holds as bit k of the word at an address
abbrev pub word_part : List Part → ℕ → Row
word_part memory address k = row_of memory (word_place address + k)

-- a list holds the words of both regions
pub record HoldsWords (memory : List Part) (word : ℕ → Row) : Type 0 where
  pub as_long : length memory ≡ word_bits
  pub each : (address k : ℕ) → IsWordAddress address → k < 32 → word_part memory address k ≡ word address k

-- a list after so many parts were written from a place on
pub record IsPlaced (place count : ℕ) (part : ℕ → Part) (old new : List Part) : Type 0 where
  pub as_long : length new ≡ length old
  pub inside : (k : ℕ) → k < count → row_of new (place + k) ≡ part k
  pub outside : (i : ℕ) → (i < place) ⊎ (place + count ≤ i) → row_of new i ≡ row_of old i

-- what a memory port leaves at bit k of the word that starts at a place: its value's bit where the enable of the byte
-- is 1, and else what is there
abbrev pub port_part : Row → MemPlan → ℕ → List Part → ℕ → Part
port_part row mem place memory k =
    cond (wire_value (ones row) (get_or mem.enables (k / 8) (Const false)))
    (wire_part row (get_or mem.value k (Const false))) (row_of memory (place + k))

-- what bit k of a word starts with, by the starts of its bits
abbrev pub plan_part : LabelTable → List Start → ℕ → Part
plan_part table bits k = start_state parts table 0 (get_or bits k (Public false))

-- the starts of a word's bits were written at its place
abbrev pub IsWordPlaced : WordPlan → List Part → List Part → Type 0
IsWordPlaced w old new = (table : LabelTable) → IsPlaced (word_place w.address) 32 (plan_part table w.bits) old new

-- what memory ports write in a cycle was stored: of whatever words a list held, it holds what is stored of them
abbrev pub AreStored : Row → List MemPlan → List Part → List Part → Type 0
AreStored row mems old new =
    (word : ℕ → Row) → HoldsWords old word
    → HoldsWords new (λ address k. stored_word parts (ones row) row mems address k (word address k))
