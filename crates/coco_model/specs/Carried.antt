-- How leaves and memory go from cycle to cycle: one rule, for their values, for what is known of them, and for their
-- roots.
use Rattle.std.specs.Prelude.{◌≡◌, ℕ, suc, ◌+◌, ◌-◌, ◌*◌, ◌/◌, ◌<◌, min, Bool, false, cond, not, ◌&&◌, nat_eq, List, [], ◌∷◌, ◌++◌, map, flat_map, length, get_or, slice_get, Contains, Option, Some, None, option_to_list}
use Rattle.coco_base.specs.declared.netlist.Flat.{Flat}
use Rattle.coco_base.specs.declared.netlist.FlatFlop.{FlatFlop}
use Rattle.coco_base.specs.declared.netlist.Wire.{Wire}
use Rattle.coco_base.specs.declared.netlist.Wire.TheVariants.{Const}
use Rattle.coco_base.specs.declared.labels.LabelTable.{LabelTable}
use Rattle.coco_base.specs.declared.setup.Start.{Start}
use Rattle.coco_base.specs.declared.setup.Start.TheVariants.{Public, Label, Fresh}
use Rattle.coco_base.specs.declared.setup.InputPlan.{InputPlan}
use Rattle.coco_base.specs.declared.setup.EchoPlan.{EchoPlan}
use Rattle.coco_base.specs.declared.setup.MemPlan.{MemPlan}
use Rattle.coco_base.specs.declared.setup.WordPlan.{WordPlan}
use Rattle.coco_base.specs.declared.setup.LeafPlan.{LeafPlan}
use Rattle.coco_base.specs.declared.setup.Setup.{Setup}
use Rattle.coco_model.specs.Netlist.{Valuation, on_wire, wire_value, IsUndriven, IsInputBit, HasNoRepeat}

-- a kind of state that bits can have (a value, what is known, a root), by what a constant and a label have
pub record States (X : Type 0) : Type 0 where
  pub constant : Bool → X
  pub label : ℕ → X

-- the state of a start in a cycle; a fresh mask has a new label in each cycle
abbrev pub start_state : {X : Type 0} → States X → LabelTable → ℕ → Start → X
start_state states table cycle (Public b) = states.constant b
start_state states table cycle (Label l) = states.label l
start_state states table cycle (Fresh j) = states.label (table.declared + cycle * table.per_cycle + j)

-- an input's entry of a cycle, or its last where the list is shorter
abbrev pub entry_of : List Start → ℕ → Start
entry_of values cycle = get_or values (min cycle (length values - 1)) (Public false)

-- what bit k of the memory word at an address starts with: as the word's plan says, and public 0 without a plan
abbrev pub word_start : List WordPlan → ℕ → ℕ → Start
word_start [] address k = Public false
word_start (w ∷ words) address k =
    cond (nat_eq w.address address) (get_or w.bits k (Public false)) (word_start words address k)

-- the state that a bit of a memory word starts with
abbrev pub start_word : {X : Type 0} → States X → LabelTable → List WordPlan → ℕ → ℕ → X
start_word states table words address k = start_state states table 0 (word_start words address k)

-- a wire that may be absent, as one that is 0
abbrev pub wire_or_off : Option Wire → Wire
wire_or_off None = Const false
wire_or_off (Some w) = w

-- the number on wires, least significant first
abbrev pub number_on : Valuation → List Wire → ℕ
number_on v [] = 0
number_on v (w ∷ ws) = cond (wire_value v w) 1 0 + 2 * number_on v ws

-- the address of the 32-bit word that a memory port names: its number without the two lowest bits
abbrev pub word_address : Valuation → MemPlan → ℕ
word_address v mem = 4 * (number_on v mem.address / 4)

-- a memory port reads: its request is 1, and its write is 0 or absent
abbrev pub is_read : Valuation → MemPlan → Bool
is_read v mem = wire_value v mem.request && not (wire_value v (wire_or_off mem.write))

-- a memory port writes: its request and its write are 1
abbrev pub is_write : Valuation → MemPlan → Bool
is_write v mem = wire_value v mem.request && wire_value v (wire_or_off mem.write)

-- a memory port stores bit k of the word at an address: it writes there, and the enable of the bit's byte is 1
abbrev pub stores : Valuation → MemPlan → ℕ → ℕ → Bool
stores v mem address k =
    is_write v mem && (nat_eq (word_address v mem) address && wire_value v (get_or mem.enables (k / 8) (Const false)))

-- the state of bit k of the word at an address after a cycle: that of the value's bit where a port stores it, else the
-- old one
abbrev pub stored_word : {X : Type 0} → States X → Valuation → (ℕ → X) → List MemPlan → ℕ → ℕ → X → X
stored_word states v state [] address k old = old
stored_word states v state (mem ∷ mems) address k old =
    cond (stores v mem address k) (on_wire states.constant state (get_or mem.value k (Const false)))
    (stored_word states v state mems address k old)

-- in every cycle: undriven bits and the clock are 0, and an input has its entry of the cycle
pub record IsGiven {X : Type 0} (states : States X) (flat : Flat) (setup : Setup) (t : ℕ) (state : ℕ → X) : Type 0 where
  pub undriven : (b : ℕ) → IsUndriven flat b → state b ≡ states.constant false
  pub clock : (b : ℕ) → setup.clock ≡ Some b → state b ≡ states.constant false
  pub inputs : (p : InputPlan) → Contains setup.inputs p
      → state p.bit ≡ start_state states setup.table t (entry_of p.values t)

-- in cycle 0: flops and memory words have their starts, echoes and memory answers are 0, and a bit of a word leaf has
-- what its word's bit has
pub record IsFirst {X : Type 0} (states : States X) (flat : Flat) (setup : Setup) (state : ℕ → X)
    (word : ℕ → ℕ → X) : Type 0 where
  pub flops : (f : FlatFlop) → Contains flat.flops f
      → state f.output ≡ start_state states setup.table 0 (get_or setup.starts f.output (Public false))
  pub echoes : (e : EchoPlan) → Contains setup.echoes e → state e.bit ≡ states.constant false
  pub answers : (mem : MemPlan) → Contains setup.memories mem → (k b : ℕ) → slice_get mem.answer k ≡ Some b
      → state b ≡ states.constant false
  pub leaves : (leaf : LeafPlan) → Contains setup.leaves leaf → (k b : ℕ) → slice_get leaf.bits k ≡ Some b
      → state b ≡ word leaf.address k
  pub words : (address k : ℕ) → word address k ≡ start_word states setup.table setup.words address k

-- from a cycle to the next, where v tells what the memory ports do: a flop has what its next wire had, an echo what its
-- source had, an answer the word that was read or else what it had, and a word, as a word leaf, what was stored or else
-- what it had
pub record IsNext {X : Type 0} (states : States X) (flat : Flat) (setup : Setup) (v : Valuation) (old : ℕ → X)
    (old_word : ℕ → ℕ → X) (new : ℕ → X) (new_word : ℕ → ℕ → X) : Type 0 where
  pub flops : (f : FlatFlop) → Contains flat.flops f → new f.output ≡ on_wire states.constant old f.next
  pub echoes : (e : EchoPlan) → Contains setup.echoes e → new e.bit ≡ on_wire states.constant old e.source
  pub answers : (mem : MemPlan) → Contains setup.memories mem → (k b : ℕ) → slice_get mem.answer k ≡ Some b
      → new b ≡ cond (is_read v mem) (old_word (word_address v mem) k) (old b)
  pub leaves : (leaf : LeafPlan) → Contains setup.leaves leaf → (k b : ℕ) → slice_get leaf.bits k ≡ Some b
      → new b ≡ stored_word states v old setup.memories leaf.address k (old b)
  pub words : (address k : ℕ)
      → new_word address k ≡ stored_word states v old setup.memories address k (old_word address k)

-- the states of leaves and of memory words over the cycles of a run, by cycle and bit, and by cycle, address and place
pub record IsCarried {X : Type 0} (states : States X) (flat : Flat) (setup : Setup) (cycles : ℕ) (v : ℕ → Valuation)
    (state : ℕ → ℕ → X) (word : ℕ → ℕ → ℕ → X) : Type 0 where
  pub given : (t : ℕ) → t < cycles → IsGiven states flat setup t (state t)
  pub first : IsFirst states flat setup (state 0) (word 0)
  pub next : (t : ℕ) → suc t < cycles → IsNext states flat setup (v t) (state t) (word t) (state (suc t)) (word (suc t))

-- the bits that the clock line, inputs, echoes, memory answers and word leaves bind
abbrev pub bound_bits : Setup → List ℕ
bound_bits setup =
    option_to_list setup.clock ++ map (λ (p : InputPlan). p.bit) setup.inputs
    ++ map (λ (e : EchoPlan). e.bit) setup.echoes ++ flat_map (λ (mem : MemPlan). mem.answer) setup.memories
    ++ flat_map (λ (leaf : LeafPlan). leaf.bits) setup.leaves

-- every input port bit is bound, once, and nothing else is
pub record IsBound (flat : Flat) (setup : Setup) : Type 0 where
  pub each : (b : ℕ) → IsInputBit flat b → Contains (bound_bits setup) b
  pub only : (b : ℕ) → Contains (bound_bits setup) b → IsInputBit flat b
  pub once : HasNoRepeat (bound_bits setup)

-- a start names a label of the table
abbrev pub IsLabelled : LabelTable → Start → Type 0
IsLabelled table (Public b) = Unit {0}
IsLabelled table (Label l) = l < table.declared
IsLabelled table (Fresh j) = j < table.per_cycle

-- each start of a flop, of an input in a cycle and of a word's bit is good
pub record AreStarts (good : Start → Type 0) (flat : Flat) (setup : Setup) : Type 0 where
  pub flops : (f : FlatFlop) → Contains flat.flops f → good (get_or setup.starts f.output (Public false))
  pub inputs : (p : InputPlan) → Contains setup.inputs p → (t : ℕ) → good (entry_of p.values t)
  pub words : (w : WordPlan) → Contains setup.words w → (k : ℕ) → good (get_or w.bits k (Public false))
