-- The one clock of a netlist, and what is named where there is more than one or where it is read as a value.
use Rattle.std.specs.Prelude.{◌≡◌, ◌≢◌, ℕ, ◌<◌, List, [], ◌∷◌, slice_get, Option, Some, None, Contains, ◌⊎◌}
use Rattle.coco_base.specs.declared.netlist.Flat.{Flat}
use Rattle.coco_base.specs.declared.netlist.FlatCell.{FlatCell}
use Rattle.coco_base.specs.declared.netlist.FlatFlop.{FlatFlop}
use Rattle.coco_base.specs.declared.netlist.Wire.{Wire}
use Rattle.coco_base.specs.declared.netlist.Wire.TheVariants.{Const, Bit}
use Rattle.coco_model.specs.Netlist.{wires_of, IsInputBit}
use Rattle.coco_model.specs.Stepped.{IsFirstWith}

-- the clock of the first flop
abbrev pub first_clock : List FlatFlop → Option Wire
first_clock [] = None
first_clock (f ∷ fs) = Some f.clock

-- a bit of an input port
abbrev pub IsInputWire : Flat → Wire → Type 0
IsInputWire flat (Const b) = ⊥
IsInputWire flat (Bit n) = IsInputBit flat n

-- a wire is the clock given, and that is a bit of an input port
pub record IsClockWire (flat : Flat) (clock wire : Wire) : Type 0 where
  pub same : wire ≡ clock
  pub input : IsInputWire flat wire

-- a flop is not on a clock
abbrev pub IsOffClock : Flat → Wire → FlatFlop → Type 0
IsOffClock flat clock flop = IsClockWire flat clock flop.clock → ⊥

-- all flops are on the clock of the first, and that is a bit
pub record HasClock (flat : Flat) (bit : ℕ) : Type 0 where
  pub first : first_clock flat.flops ≡ Some (Bit bit)
  pub flops : (f : FlatFlop) → Contains flat.flops f → IsClockWire flat (Bit bit) f.clock

-- a flop reads a bit as a value: as its next value or as its reset
abbrev pub ReadsAsValue : FlatFlop → ℕ → Type 0
ReadsAsValue flop bit = (flop.next ≡ Bit bit) ⊎ (flop.reset ≡ Some (Bit bit))

-- no cell and no flop reads a bit as a value
pub record IsNoValue (flat : Flat) (bit : ℕ) : Type 0 where
  pub cells : (c : FlatCell) → Contains flat.cells c → Contains (wires_of c) (Bit bit) → ⊥
  pub flops : (f : FlatFlop) → Contains flat.flops f → ReadsAsValue f bit → ⊥

-- the bit that clocks all flops is a bit of an input port that is read as a clock alone
pub record IsOneClock (flat : Flat) (bit : ℕ) : Type 0 where
  pub has : HasClock flat bit
  pub no_value : IsNoValue flat bit

-- the clock of a netlist; there is none where there are no flops
abbrev pub IsGraphClock : Flat → Option ℕ → Type 0
IsGraphClock flat None = flat.flops ≡ []
IsGraphClock flat (Some bit) = IsOneClock flat bit

-- the first member of a list of which P holds
pub record IsFirstOf {X : Type 0} (P : X → Type 0) (xs : List X) (x : X) : Type 0 where
  pub place : ℕ
  pub first : IsFirstWith P xs place
  pub is : first.member ≡ x

-- the name of what is at fault with the clock: the first flop whose clock is no input port bit or not that of the first
-- flop; where all have one clock, the first cell that reads it, and where no cell does, the first flop that reads it as a
-- value
pub data IsClockFault (flat : Flat) : List ℕ → Type 0 where
  second : (clock : Wire) (f : FlatFlop) → first_clock flat.flops ≡ Some clock
      → IsFirstOf (IsOffClock flat clock) flat.flops f → IsClockFault flat f.name
  cell : (bit : ℕ) (c : FlatCell) → HasClock flat bit
      → IsFirstOf (λ (d : FlatCell). Contains (wires_of d) (Bit bit)) flat.cells c → IsClockFault flat c.name
  flop : (bit : ℕ) (f : FlatFlop) → HasClock flat bit
      → ((c : FlatCell) → Contains flat.cells c → Contains (wires_of c) (Bit bit) → ⊥)
      → IsFirstOf (λ (g : FlatFlop). ReadsAsValue g bit) flat.flops f → IsClockFault flat f.name
