-- What drives the bits of a netlist: the places of input ports, then cells, then flops.
use Rattle.std.specs.Prelude.{◌≡◌, ℕ, suc, ◌<◌, ◌^◌, Bool, true, cond, nat_eq, List, [], ◌∷◌, ◌++◌, map, length, get_or, slice_get, Some, Contains}
use Rattle.coco_base.specs.declared.netlist.Flat.{Flat}
use Rattle.coco_base.specs.declared.netlist.FlatCell.{FlatCell}
use Rattle.coco_base.specs.declared.netlist.FlatFlop.{FlatFlop}
use Rattle.coco_base.specs.declared.netlist.FlatPort.{FlatPort}
use Rattle.coco_base.specs.declared.netlist.Wire.TheVariants.{Bit}
use Rattle.coco_model.specs.Netlist.{bits_in, IsUndriven, HasOneDriver, IsInRange}
use Rattle.gate_graph.specs.declared.driver.Driver.{Driver}
use Rattle.gate_graph.specs.declared.driver.Driving.{Driving}
use Rattle.gate_graph.specs.declared.driver.Driver.TheVariants.{Port, Cell, Flop, Nothing}

-- ports, cells and flops are few enough to be numbered
pub record HasNumbers (flat : Flat) : Type 0 where
  pub ports : length flat.ports < 2 ^ 32
  pub cells : length flat.cells < 2 ^ 32
  pub flops : length flat.flops < 2 ^ 32

-- an input port drives a bit
abbrev pub port_driving : ℕ → ℕ → Driving
port_driving number b = record { bit = b; driver = Port number }

-- the places of input ports, the first of which has the number given
abbrev pub port_drivings : ℕ → List FlatPort → List Driving
port_drivings number [] = []
port_drivings number (p ∷ ps) =
    map (port_driving number) (cond p.input (bits_in p.wires) []) ++ port_drivings (suc number) ps

-- the outputs of cells or flops, the first of which has the number given
abbrev pub output_drivings : {X : Type 0} → (ℕ → Driver) → (X → ℕ) → ℕ → List X → List Driving
output_drivings driver output number [] = []
output_drivings driver output number (x ∷ xs) =
    record { bit = output x; driver = driver number } ∷ output_drivings driver output (suc number) xs

abbrev pub cell_drivings : ℕ → List FlatCell → List Driving
cell_drivings number cells = output_drivings Cell (λ (c : FlatCell). c.output) number cells

abbrev pub flop_drivings : ℕ → List FlatFlop → List Driving
flop_drivings number flops = output_drivings Flop (λ (f : FlatFlop). f.output) number flops

-- all places that drive a bit: of input ports in their order, then cells, then flops
abbrev pub drivings : Flat → List Driving
drivings flat = port_drivings 0 flat.ports ++ cell_drivings 0 flat.cells ++ flop_drivings 0 flat.flops

-- of places, what drives the bit, in order
abbrev pub drivers_among : ℕ → List Driving → List Driver
drivers_among bit [] = []
drivers_among bit (d ∷ ds) = cond (nat_eq d.bit bit) (d.driver ∷ drivers_among bit ds) (drivers_among bit ds)

-- the drivers of a bit, in order
abbrev pub drivers_of : Flat → ℕ → List Driver
drivers_of flat bit = drivers_among bit (drivings flat)

-- the name of the port, cell or flop
abbrev pub driver_name : Flat → Driver → List ℕ
driver_name flat (Port p) = get_or (map (λ (port : FlatPort). port.name) flat.ports) p []
driver_name flat (Cell i) = get_or (map (λ (cell : FlatCell). cell.name) flat.cells) i []
driver_name flat (Flop i) = get_or (map (λ (flop : FlatFlop). flop.name) flat.flops) i []
driver_name flat Nothing = []

-- the input port of a number has the bit
pub record IsPortBit (flat : Flat) (number bit : ℕ) : Type 0 where
  pub port : FlatPort
  pub at : slice_get flat.ports number ≡ Some port
  pub input : port.input ≡ true
  pub wired : Contains port.wires (Bit bit)

-- the cell, or the flop, of a number has the bit as its output
pub record IsCellOutput (flat : Flat) (number bit : ℕ) : Type 0 where
  pub cell : FlatCell
  pub at : slice_get flat.cells number ≡ Some cell
  pub drives : cell.output ≡ bit

pub record IsFlopOutput (flat : Flat) (number bit : ℕ) : Type 0 where
  pub flop : FlatFlop
  pub at : slice_get flat.flops number ≡ Some flop
  pub drives : flop.output ≡ bit

-- what drives a bit
abbrev pub IsDriver : Flat → ℕ → Driver → Type 0
IsDriver flat bit (Port number) = IsPortBit flat number bit
IsDriver flat bit (Cell number) = IsCellOutput flat number bit
IsDriver flat bit (Flop number) = IsFlopOutput flat number bit
IsDriver flat bit Nothing = IsUndriven flat bit

-- for each bit of the netlist what drives it
pub record AreDrivers (flat : Flat) (drivers : List Driver) : Type 0 where
  pub as_long : length drivers ≡ flat.bits
  pub each : (bit : ℕ) → IsDriver flat bit (get_or drivers bit Nothing)

-- a netlist whose bits have at most one driver each, and what drives them
pub record IsWired (flat : Flat) (drivers : List Driver) : Type 0 where
  pub range : IsInRange flat
  pub numbers : HasNumbers flat
  pub one_driver : HasOneDriver flat
  pub driven : AreDrivers flat drivers
