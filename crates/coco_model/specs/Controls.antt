-- The controls: the wires that have to be known, so that what the memory does is the same in every run.
use Rattle.std.specs.Prelude.{◌≡◌, ◌≢◌, ℕ, ◌<◌, ◌≤◌, ◌⊎◌, Any, slice_get, Contains, Some}
use Rattle.coco_base.specs.declared.netlist.Flat.{Flat}
use Rattle.coco_base.specs.declared.netlist.FlatFlop.{FlatFlop}
use Rattle.coco_base.specs.declared.netlist.Wire.{Wire}
use Rattle.coco_base.specs.declared.cell.Part.TheVariants.{One, Vary}
use Rattle.coco_base.specs.declared.setup.MemPlan.{MemPlan}
use Rattle.coco_base.specs.declared.setup.When.{When}
use Rattle.coco_base.specs.declared.setup.When.TheVariants.{Always, Requested, Written}
use Rattle.coco_base.specs.declared.setup.ControlPlan.{ControlPlan}
use Rattle.coco_base.specs.declared.setup.Setup.{Setup}
use Rattle.coco_model.specs.Carried.{wire_or_off, number_on}
use Rattle.coco_model.specs.Known.{Row, part_of, wire_part, ones}

-- when a control has to be known: in every cycle, where a memory port's request is 1, or where its request and its
-- write are 1
abbrev pub Applies : Setup → Row → When → Type 0
Applies setup row Always = Unit {0}
Applies setup row (Requested i) =
    (mem : MemPlan) × (slice_get setup.memories i ≡ Some mem) × (wire_part row mem.request ≡ One)
Applies setup row (Written i) =
    (mem : MemPlan) × (slice_get setup.memories i ≡ Some mem) × (wire_part row mem.request ≡ One)
    × (wire_part row (wire_or_off mem.write) ≡ One)

-- in a cycle every control that applies is known
pub record AreControlsKnown (setup : Setup) (row : Row) : Type 0 where
  pub each : (c : ControlPlan) → Contains setup.controls c → Applies setup row c.when → wire_part row c.wire ≢ Vary

-- a wire is a control at such times
abbrev pub IsControl : Setup → Wire → When → Type 0
IsControl setup wire when = Any (λ (c : ControlPlan). (c.wire ≡ wire) × (c.when ≡ when)) setup.controls

-- the requests, addresses, writes and byte enables of memory port i are controls
pub record HasControlsOf (setup : Setup) (i : ℕ) (mem : MemPlan) : Type 0 where
  pub request : IsControl setup mem.request Always
  pub address : (w : Wire) → Contains mem.address w → IsControl setup w (Requested i)
  pub write : (w : Wire) → mem.write ≡ Some w → IsControl setup w (Requested i)
  pub enables : (w : Wire) → Contains mem.enables w → IsControl setup w (Written i)

-- the requests, addresses, writes and byte enables of the memory ports are controls, and so are the program counter and
-- the asynchronous resets; there may be more, and their order is that of the setup
pub record HasControls (flat : Flat) (setup : Setup) : Type 0 where
  pub each : (i : ℕ) (mem : MemPlan) → slice_get setup.memories i ≡ Some mem → HasControlsOf setup i mem
  pub pc : (w : Wire) → Contains setup.pc w → IsControl setup w Always
  pub resets : (f : FlatFlop) → Contains flat.flops f → (w : Wire) → f.reset ≡ Some w → IsControl setup w Always

-- a control is at fault: it applies and is unknown
pub record IsUnknownControl (setup : Setup) (row : Row) (c : ControlPlan) : Type 0 where
  pub applies : Applies setup row c.when
  pub unknown : wire_part row c.wire ≡ Vary

-- an asynchronous reset is known at its active level
pub record IsResetActive (row : Row) (f : FlatFlop) : Type 0 where
  pub wire : Wire
  pub reset : f.reset ≡ Some wire
  pub active : wire_part row wire ≡ part_of f.level

-- the two regions of the memory: 4,096 words of text from address 0, and 1,024 words of data from address 0x10000
abbrev pub IsInRegion : ℕ → Type 0
IsInRegion address = (address < 0x4000) ⊎ (0x10000 ≤ address) × (address < 0x11000)

-- a memory port asks for a word outside both regions
pub record IsOutside (row : Row) (mem : MemPlan) : Type 0 where
  pub request : wire_part row mem.request ≡ One
  pub outside : IsInRegion (number_on (ones row) mem.address) → ⊥
