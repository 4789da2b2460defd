-- When a netlist is refused, in the order of the causes: a bit with two drivers, a loop, a second clock.
use Rattle.std.specs.Prelude.{◌≡◌, ℕ, ◌<◌, ◌≤◌, List, ◌∷◌, length}
use Rattle.coco_base.specs.declared.netlist.Flat.{Flat}
use Rattle.coco_base.specs.BitNames.{name_of_bit}
use Rattle.coco_model.specs.Netlist.{HasOneDriver}
use Rattle.gate_graph.specs.declared.driver.Driver.{Driver}
use Rattle.gate_graph.specs.declared.fault.GraphFault.{GraphFault}
use Rattle.gate_graph.specs.declared.fault.GraphFault.TheVariants.{TwoDrivers, Loop, SecondClock, Memory}
use Rattle.gate_graph.specs.Drivers.{drivers_of, driver_name}
use Rattle.gate_graph.specs.Levels.{AreLevels}
use Rattle.gate_graph.specs.Loops.{IsLoop}
use Rattle.gate_graph.specs.Clocks.{IsClockFault}

-- the least bit with two drivers, and its first two
pub record IsTwiceDriven (flat : Flat) (bit : ℕ) (first second : Driver) : Type 0 where
  pub rest : List Driver
  pub drivers : drivers_of flat bit ≡ first ∷ second ∷ rest
  pub least : (b : ℕ) → b < bit → length (drivers_of flat b) ≤ 1

-- their names
pub record AreTwoDrivers (flat : Flat) (name first second : List ℕ) : Type 0 where
  pub bit : ℕ
  pub one : Driver
  pub other : Driver
  pub twice : IsTwiceDriven flat bit one other
  pub bit_name : name ≡ name_of_bit flat bit
  pub first_name : first ≡ driver_name flat one
  pub second_name : second ≡ driver_name flat other

-- what is at fault, where nothing before it in this order is
abbrev pub IsGraphFault : Flat → GraphFault → Type 0
IsGraphFault flat (TwoDrivers bit first second) = AreTwoDrivers flat bit first second
IsGraphFault flat (Loop cells) = HasOneDriver flat × IsLoop flat cells
IsGraphFault flat (SecondClock cell) =
    HasOneDriver flat × ((level : ℕ → ℕ) × AreLevels flat level) × IsClockFault flat cell
IsGraphFault flat Memory = Unit {0}
