-- The netlist, and the valuations that agree with its cells.
use Rattle.std.specs.Prelude.{◌≡◌, ℕ, ◌<◌, Bool, false, cond, List, [], ◌∷◌, ◌++◌, map, flat_map, Any, Contains, Some}
use Rattle.coco_base.specs.declared.netlist.Flat.{Flat}
use Rattle.coco_base.specs.declared.netlist.FlatCell.{FlatCell}
use Rattle.coco_base.specs.declared.netlist.FlatFlop.{FlatFlop}
use Rattle.coco_base.specs.declared.netlist.FlatPort.{FlatPort}
use Rattle.coco_base.specs.declared.netlist.FlatNet.{FlatNet}
use Rattle.coco_base.specs.declared.netlist.Wire.{Wire}
use Rattle.coco_base.specs.declared.netlist.Wire.TheVariants.{Const, Bit}
use Rattle.coco_model.specs.Cells.{output_of, input_places}

-- the wires that a cell reads: those at the inputs of its kind
abbrev pub wires_of : FlatCell → List Wire
wires_of cell = input_places cell.kind cell.inputs

-- what a wire has, where constants and bits have something
abbrev pub on_wire : {X : Type 0} → (Bool → X) → (ℕ → X) → Wire → X
on_wire constant state (Const b) = constant b
on_wire constant state (Bit n) = state n

-- a value of every bit
abbrev pub Valuation : Type 0
Valuation = ℕ → Bool

abbrev pub wire_value : Valuation → Wire → Bool
wire_value v w = on_wire (λ b. b) v w

-- what a cell computes from a valuation
abbrev pub cell_value : Valuation → FlatCell → Bool
cell_value v cell = output_of cell.kind (map (wire_value v) (wires_of cell))

-- the bits among wires
abbrev pub bits_in : List Wire → List ℕ
bits_in [] = []
bits_in (Const b ∷ ws) = bits_in ws
bits_in (Bit n ∷ ws) = n ∷ bits_in ws

-- the bits of the input ports, port by port
abbrev pub input_bits : Flat → List ℕ
input_bits flat = flat_map (λ (p : FlatPort). cond p.input (bits_in p.wires) []) flat.ports

abbrev pub IsInputBit : Flat → ℕ → Type 0
IsInputBit flat b = Contains (input_bits flat) b

abbrev pub IsFlopBit : Flat → ℕ → Type 0
IsFlopBit flat b = Any (λ (f : FlatFlop). f.output ≡ b) flat.flops

abbrev pub IsCellBit : Flat → ℕ → Type 0
IsCellBit flat b = Any (λ (c : FlatCell). c.output ≡ b) flat.cells

-- no input port, flop or cell drives the bit
pub record IsUndriven (flat : Flat) (b : ℕ) : Type 0 where
  pub no_input : IsInputBit flat b → ⊥
  pub no_flop : IsFlopBit flat b → ⊥
  pub no_cell : IsCellBit flat b → ⊥

-- each cell's output is its function of its inputs, and a bit that nothing drives is 0
pub record IsSettled (flat : Flat) (v : Valuation) : Type 0 where
  pub cells : (c : FlatCell) → Contains flat.cells c → v c.output ≡ cell_value v c
  pub undriven : (b : ℕ) → IsUndriven flat b → v b ≡ false

-- each cell's output has a higher rank than the bits that the cell reads; so no cells make a loop
pub record IsRanked (flat : Flat) (rank : ℕ → ℕ) : Type 0 where
  pub cells : (c : FlatCell) → Contains flat.cells c → (b : ℕ) → Contains (wires_of c) (Bit b) → rank b < rank c.output

-- no member stands twice
abbrev pub HasNoRepeat : {X : Type 0} → List X → Type 0
HasNoRepeat [] = Unit {0}
HasNoRepeat (x ∷ xs) = (Contains xs x → ⊥) × HasNoRepeat xs

-- the driven bits, driver by driver: the places of input ports, then cells, then flops
abbrev pub driven_bits : Flat → List ℕ
driven_bits flat =
    input_bits flat ++ map (λ (c : FlatCell). c.output) flat.cells ++ map (λ (f : FlatFlop). f.output) flat.flops

-- no bit has two drivers
pub record HasOneDriver (flat : Flat) : Type 0 where
  pub once : HasNoRepeat (driven_bits flat)

-- a wire is a constant or a bit with a number below a bound
abbrev pub IsWireBelow : ℕ → Wire → Type 0
IsWireBelow bits (Const b) = Unit {0}
IsWireBelow bits (Bit n) = n < bits

-- each bit that a cell reads or drives, or that a flop, a port or a net names, is one of the netlist's bits
pub record IsInRange (flat : Flat) : Type 0 where
  pub outputs : (c : FlatCell) → Contains flat.cells c → c.output < flat.bits
  pub inputs : (c : FlatCell) → Contains flat.cells c → (w : Wire) → Contains (wires_of c) w → IsWireBelow flat.bits w
  pub flops : (f : FlatFlop) → Contains flat.flops f → f.output < flat.bits
  pub next : (f : FlatFlop) → Contains flat.flops f → IsWireBelow flat.bits f.next
  pub clocks : (f : FlatFlop) → Contains flat.flops f → IsWireBelow flat.bits f.clock
  pub resets : (f : FlatFlop) → Contains flat.flops f → (w : Wire) → f.reset ≡ Some w → IsWireBelow flat.bits w
  pub ports : (p : FlatPort) → Contains flat.ports p → (w : Wire) → Contains p.wires w → IsWireBelow flat.bits w
  pub nets : (n : FlatNet) → Contains flat.nets n → (w : Wire) → Contains n.wires w → IsWireBelow flat.bits w
