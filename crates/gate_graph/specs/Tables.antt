-- A table of drivers by bit, made from the places that drive bits.
use Rattle.std.specs.Prelude.{◌≡◌, ◌≢◌, ℕ, ◌<◌, ◌≤◌, List, [], ◌∷◌, length, get_or, Option, Some, None}
use Rattle.gate_graph.specs.declared.driver.Driver.{Driver}
use Rattle.gate_graph.specs.declared.driver.Driver.TheVariants.{Nothing}
use Rattle.gate_graph.specs.declared.driver.Driving.{Driving}
use Rattle.gate_graph.specs.declared.fault.GraphFault.{GraphFault}
use Rattle.gate_graph.specs.declared.fault.GraphFault.TheVariants.{TwoDrivers, Loop, SecondClock, Memory}
use Rattle.coco_base.specs.BitNames.{name_of_bit}
use Rattle.coco_base.specs.declared.netlist.Flat.{Flat}
use Rattle.gate_graph.specs.Drivers.{drivers_among, driver_name}

-- a place drives a bit below a bound
pub record IsDriving (bits : ℕ) (place : Driving) : Type 0 where
  pub below : place.bit < bits
  pub some : place.driver ≢ Nothing

abbrev pub first_driver : List Driver → Driver
first_driver [] = Nothing
first_driver (d ∷ ds) = d

-- the second driver of the least bit that has two
pub record IsSecond (places : List Driving) (second : Driving) : Type 0 where
  pub first : Driver
  pub rest : List Driver
  pub drivers : drivers_among second.bit places ≡ first ∷ second.driver ∷ rest
  pub least : (b : ℕ) → b < second.bit → length (drivers_among b places) ≤ 1

abbrev pub IsSecondIn : List Driving → Option Driving → Type 0
IsSecondIn places None = (b : ℕ) → length (drivers_among b places) ≤ 1
IsSecondIn places (Some second) = IsSecond places second

-- the first driver of each bit, and the second driver of the least bit that has two
pub record IsTable (places : List Driving) (drivers : List Driver) (second : Option Driving) : Type 0 where
  pub each : (b : ℕ) → b < length drivers → get_or drivers b Nothing ≡ first_driver (drivers_among b places)
  pub second_is : IsSecondIn places second

-- a bit comes before that of a second driver
abbrev pub IsBefore : ℕ → Option Driving → Type 0
IsBefore bit None = Unit {0}
IsBefore bit (Some second) = bit < second.bit

-- the fault that names a bit and its first two drivers
abbrev pub IsTwoDriversFault : Flat → Driver → Driving → GraphFault → Type 0
IsTwoDriversFault flat first place (TwoDrivers bit one other) =
    (bit ≡ name_of_bit flat place.bit) × (one ≡ driver_name flat first) × (other ≡ driver_name flat place.driver)
IsTwoDriversFault flat first place (Loop cells) = ⊥
IsTwoDriversFault flat first place (SecondClock cell) = ⊥
IsTwoDriversFault flat first place Memory = ⊥
