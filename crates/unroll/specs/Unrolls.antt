-- Why a run is not unrolled.
use Rattle.std.specs.Prelude.{◌≡◌, ℕ, suc, ◌*◌, ◌<◌, ◌≤◌, List, [], map, length, get_or, Some}
use Rattle.coco_base.specs.declared.limits.Limits.{Limits}
use Rattle.coco_base.specs.declared.netlist.Flat.{Flat}
use Rattle.coco_base.specs.declared.netlist.FlatFlop.{FlatFlop}
use Rattle.coco_base.specs.declared.setup.ControlPlan.{ControlPlan}
use Rattle.coco_base.specs.declared.setup.Setup.{Setup}
use Rattle.coco_model.specs.Known.{Row, IsKnown}
use Rattle.coco_model.specs.Stepped.{IsGoodCycle}
use Rattle.cycle_sim.specs.Simulations.{IsCycleFault}
use Rattle.cycle_sim.specs.declared.fault.SimFault.{SimFault}
use Rattle.cycle_sim.specs.declared.fault.SimFault.TheVariants.{ControlDepends, ResetActive, AddressOutside}
use Rattle.unroll.specs.declared.fault.UnrollFault.{UnrollFault}
use Rattle.unroll.specs.declared.fault.UnrollFault.TheVariants.{TooManyNodes, Sim, Memory}

-- a cycle has a fault, and those before it have none
pub record IsFaultIn (flat : Flat) (setup : Setup) (cycle : ℕ) (fault : SimFault) : Type 0 where
  pub row : ℕ → Row
  pub word : ℕ → ℕ → Row
  pub known : IsKnown flat setup (suc cycle) row word
  pub good : (t : ℕ) → t < cycle → IsGoodCycle flat setup (row t)
  pub fault_is : IsCycleFault flat setup (row cycle) cycle (Some fault)

-- the fault of the first cycle that has one
pub record IsFirstFault (flat : Flat) (setup : Setup) (cycles : ℕ) (fault : SimFault) : Type 0 where
  pub cycle : ℕ
  pub below : cycle < cycles
  pub first : IsFaultIn flat setup cycle fault

-- the name of the control or of the flop that a fault is of; an address has none
abbrev pub fault_name : Flat → Setup → SimFault → List ℕ
fault_name flat setup (ControlDepends control cycle) =
    get_or (map (λ (c : ControlPlan). c.name) setup.controls) control []
fault_name flat setup (ResetActive flop cycle) = get_or (map (λ (f : FlatFlop). f.name) flat.flops) flop []
fault_name flat setup (AddressOutside cycle address) = []

-- a fault names a control or a flop that is there
abbrev pub HasNamed : Flat → Setup → SimFault → Type 0
HasNamed flat setup (ControlDepends control cycle) = control < length setup.controls
HasNamed flat setup (ResetActive flop cycle) = flop < length flat.flops
HasNamed flat setup (AddressOutside cycle address) = Unit {0}

-- a fault with its name
abbrev pub IsNamedFault : Flat → Setup → SimFault → UnrollFault → Type 0
IsNamedFault flat setup fault (TooManyNodes count limit) = ⊥
IsNamedFault flat setup fault (Sim found name) = (found ≡ fault) × (name ≡ fault_name flat setup fault)
IsNamedFault flat setup fault Memory = ⊥

-- bits times cycles are within the limit
abbrev pub IsWithin : Flat → ℕ → Limits → Type 0
IsWithin flat cycles limits = flat.bits * cycles ≤ limits.nodes

-- why a run is not unrolled: it has more nodes than the limit allows, or, where it has not, the first fault of its
-- simulation with its name
abbrev pub IsUnrollFault : Flat → Setup → ℕ → Limits → UnrollFault → Type 0
IsUnrollFault flat setup cycles limits (TooManyNodes count limit) =
    (count ≡ flat.bits * cycles) × (limit ≡ limits.nodes) × (limit < count)
IsUnrollFault flat setup cycles limits (Sim fault name) =
    IsWithin flat cycles limits × IsFirstFault flat setup cycles fault × (name ≡ fault_name flat setup fault)
IsUnrollFault flat setup cycles limits Memory = IsWithin flat cycles limits

-- the same where there are no more nodes than the limit allows
abbrev pub IsSimFault : Flat → Setup → ℕ → UnrollFault → Type 0
IsSimFault flat setup cycles (TooManyNodes count limit) = ⊥
IsSimFault flat setup cycles (Sim fault name) =
    IsFirstFault flat setup cycles fault × (name ≡ fault_name flat setup fault)
IsSimFault flat setup cycles Memory = Unit {0}
