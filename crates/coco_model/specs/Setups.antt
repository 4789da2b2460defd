-- What a setup that is bound to a netlist keeps.
use Rattle.std.specs.Prelude.{◌≡◌, ℕ, false, ◌*◌, ◌^◌, ◌<◌, ◌≤◌, map, length, slice_get, Contains, Some, IsSome}
use Rattle.coco_base.specs.declared.netlist.Flat.{Flat}
use Rattle.coco_base.specs.declared.netlist.FlatCell.{FlatCell}
use Rattle.coco_base.specs.declared.netlist.FlatFlop.{FlatFlop}
use Rattle.coco_base.specs.declared.netlist.Wire.{Wire}
use Rattle.coco_base.specs.declared.netlist.Wire.TheVariants.{Bit}
use Rattle.coco_base.specs.declared.setup.Start.{Start}
use Rattle.coco_base.specs.declared.setup.Start.TheVariants.{Public}
use Rattle.coco_base.specs.declared.setup.InputPlan.{InputPlan}
use Rattle.coco_base.specs.declared.setup.EchoPlan.{EchoPlan}
use Rattle.coco_base.specs.declared.setup.MemPlan.{MemPlan}
use Rattle.coco_base.specs.declared.setup.WordPlan.{WordPlan}
use Rattle.coco_base.specs.declared.setup.LeafPlan.{LeafPlan}
use Rattle.coco_base.specs.declared.setup.When.{When}
use Rattle.coco_base.specs.declared.setup.When.TheVariants.{Always, Requested, Written}
use Rattle.coco_base.specs.declared.setup.ControlPlan.{ControlPlan}
use Rattle.coco_base.specs.declared.setup.Setup.{Setup}
use Rattle.coco_model.specs.Netlist.{wires_of, IsInputBit, IsWireBelow, HasNoRepeat}
use Rattle.coco_model.specs.Labels.{IsLabelTable}
use Rattle.coco_model.specs.Carried.{IsBound, IsLabelled, word_start}
use Rattle.coco_model.specs.Controls.{HasControls, IsInRegion}

-- a time names one of the memory ports, by a number below theirs
abbrev pub IsWhenBelow : ℕ → When → Type 0
IsWhenBelow memories Always = Unit {0}
IsWhenBelow memories (Requested i) = i < memories
IsWhenBelow memories (Written i) = i < memories

-- a memory port with 1 to 32 address wires and 32 answer bits; with a write wire it has 4 byte enables and 32 value
-- wires
pub record IsMemoryPort (bits : ℕ) (mem : MemPlan) : Type 0 where
  pub some_address : 0 < length mem.address
  pub address : length mem.address ≤ 32
  pub answer : length mem.answer ≡ 32
  pub enables : IsSome mem.write → length mem.enables ≡ 4
  pub value : IsSome mem.write → length mem.value ≡ 32
  pub request_below : IsWireBelow bits mem.request
  pub write_below : (w : Wire) → mem.write ≡ Some w → IsWireBelow bits w
  pub address_below : (w : Wire) → Contains mem.address w → IsWireBelow bits w
  pub enables_below : (w : Wire) → Contains mem.enables w → IsWireBelow bits w
  pub value_below : (w : Wire) → Contains mem.value w → IsWireBelow bits w

-- the address of a memory word: a multiple of 4 in one of the memory's regions
pub record IsWordAddress (address : ℕ) : Type 0 where
  pub word : ℕ
  pub aligned : address ≡ 4 * word
  pub inside : IsInRegion address

-- a memory word of 32 bits
pub record IsMemoryWord (w : WordPlan) : Type 0 where
  pub bits : length w.bits ≡ 32
  pub address : IsWordAddress w.address

-- a memory word whose 32 bits are leaves, which start as the word's bits do
pub record IsWordLeaf (setup : Setup) (leaf : LeafPlan) : Type 0 where
  pub bits : length leaf.bits ≡ 32
  pub address : IsWordAddress leaf.address
  pub starts : (k b : ℕ) → slice_get leaf.bits k ≡ Some b
      → slice_get setup.starts b ≡ Some (word_start setup.words leaf.address k)

-- an input port bit that no cell and no next value or reset of a flop reads
pub record IsClock (flat : Flat) (b : ℕ) : Type 0 where
  pub input : IsInputBit flat b
  pub no_cell : (c : FlatCell) → Contains flat.cells c → Contains (wires_of c) (Bit b) → ⊥
  pub no_next : (f : FlatFlop) → Contains flat.flops f → f.next ≡ Bit b → ⊥
  pub no_reset : (f : FlatFlop) → Contains flat.flops f → f.reset ≡ Some (Bit b) → ⊥

-- a setup is bound to a netlist: its numbers are in range, a cycle has at most as many fresh labels as the netlist has
-- bits, its parts have their widths, inputs start as their plans say, echoes and memory answers start at 0, at most one
-- memory port writes, the words are apart, and so are the words that are leaves, the controls are there, and each input
-- port bit is bound once
pub record IsBoundTo (flat : Flat) (setup : Setup) : Type 0 where
  pub table : IsLabelTable setup.table
  pub fresh_labels : setup.table.per_cycle ≤ flat.bits
  pub starts : length setup.starts ≡ flat.bits
  pub labels : (s : Start) → Contains setup.starts s → IsLabelled setup.table s
  pub input_labels : (p : InputPlan) → Contains setup.inputs p → (s : Start) → Contains p.values s
      → IsLabelled setup.table s
  pub word_labels : (w : WordPlan) → Contains setup.words w → (s : Start) → Contains w.bits s → IsLabelled setup.table s
  pub first_values : (p : InputPlan) → Contains setup.inputs p → slice_get p.values 0 ≡ slice_get setup.starts p.bit
  pub some_values : (p : InputPlan) → Contains setup.inputs p → 0 < length p.values
  pub echoes : (e : EchoPlan) → Contains setup.echoes e → slice_get setup.starts e.bit ≡ Some (Public false)
  pub answers : (mem : MemPlan) → Contains setup.memories mem → (b : ℕ) → Contains mem.answer b
      → slice_get setup.starts b ≡ Some (Public false)
  pub sources : (e : EchoPlan) → Contains setup.echoes e → IsWireBelow flat.bits e.source
  pub memories : (mem : MemPlan) → Contains setup.memories mem → IsMemoryPort flat.bits mem
  pub one_writer : (i j : ℕ) (one other : MemPlan) → slice_get setup.memories i ≡ Some one
      → slice_get setup.memories j ≡ Some other
      → IsSome one.write → IsSome other.write → i ≡ j
  pub words : (w : WordPlan) → Contains setup.words w → IsMemoryWord w
  pub apart : HasNoRepeat (map (λ (w : WordPlan). w.address) setup.words)
  pub leaves : (leaf : LeafPlan) → Contains setup.leaves leaf → IsWordLeaf setup leaf
  pub leaves_apart : HasNoRepeat (map (λ (leaf : LeafPlan). leaf.address) setup.leaves)
  pub pc : length setup.pc ≤ 32
  pub pc_below : (w : Wire) → Contains setup.pc w → IsWireBelow flat.bits w
  pub controls : HasControls flat setup
  pub controls_below : (c : ControlPlan) → Contains setup.controls c → IsWireBelow flat.bits c.wire
  pub few_controls : length setup.controls < 2 ^ 32
  pub controls_when : (c : ControlPlan) → Contains setup.controls c → IsWhenBelow (length setup.memories) c.when
  pub clock : (b : ℕ) → setup.clock ≡ Some b → IsClock flat b
  pub bound : IsBound flat setup
