-- What contracts see of a simulation, and what it shows.
use Rattle.std.specs.Prelude.{◌≡◌, ℕ, zero, suc, ◌<◌, ◌≤◌, ◌^◌, List, length, Option, Some, None, IsSome, MatchOption, Contains}
use Rattle.coco_base.specs.declared.cell.Part.{Part}
use Rattle.coco_base.specs.declared.netlist.Flat.{Flat}
use Rattle.coco_base.specs.declared.setup.MemPlan.{MemPlan}
use Rattle.coco_base.specs.declared.setup.Setup.{Setup}
use Rattle.coco_model.specs.Carried.{number_on, start_word}
use Rattle.coco_model.specs.Cells.{Allows}
use Rattle.coco_model.specs.Controls.{AreControlsKnown, IsOutside, IsResetActive}
use Rattle.coco_model.specs.Known.{Row, ones, parts, IsKnown}
use Rattle.coco_model.specs.Labels.{Choice}
use Rattle.coco_model.specs.Netlist.{Valuation}
use Rattle.coco_model.specs.Run.{Memory, IsRun, before}
use Rattle.coco_model.specs.Setups.{IsBoundTo}
use Rattle.coco_model.specs.Stepped.{HasNoReset, IsFirstWith, IsGoodCycle, IsControlFault, IsResetFault, IsAddressFault, IsShownAt, IsStepped, row_of}
use Rattle.gate_graph.specs.Graphs.{Gates, IsBuilt}
use Rattle.cycle_sim.specs.Memories.{HoldsWords}
use Rattle.cycle_sim.specs.declared.cycle.Snapshot.{Snapshot}
use Rattle.cycle_sim.specs.declared.fault.SimFault.{SimFault}
use Rattle.cycle_sim.specs.declared.fault.SimFault.TheVariants.{ControlDepends, ResetActive, AddressOutside}

-- the netlist's graph and the setup, how many cycles were made, what is known of the bits in the last of them and in
-- the one before and of the memory in the last, and what is at fault in the last
pub record Simulation : Type 0 where
  pub gates : Gates
  pub setup : Setup
  pub cycles : ℕ
  pub known : List Part
  pub old : List Part
  pub memory : List Part
  pub fault : Option SimFault

-- the fault of a cycle, with its number, or none where the cycle is good
abbrev pub IsCycleFault : Flat → Setup → Row → ℕ → Option SimFault → Type 0
IsCycleFault flat setup row t None = IsGoodCycle flat setup row
IsCycleFault flat setup row t (Some (ControlDepends control cycle)) = IsControlFault setup row control × (cycle ≡ t)
IsCycleFault flat setup row t (Some (ResetActive flop cycle)) = IsResetFault flat setup row flop × (cycle ≡ t)
IsCycleFault flat setup row t (Some (AddressOutside cycle address)) =
    IsAddressFault flat setup row address × (cycle ≡ t)

-- the address of the first memory port that asks for what is outside the regions
pub record IsFirstOutside (setup : Setup) (row : Row) (address : ℕ) : Type 0 where
  pub place : ℕ
  pub first : IsFirstWith (IsOutside row) setup.memories place
  pub asked : address ≡ number_on (ones row) first.member.address

abbrev pub HasSmallAddresses : Setup → Type 0
HasSmallAddresses setup = (mem : MemPlan) → Contains setup.memories mem → length mem.address ≤ 32

-- rows and a memory are what is known in cycle t, past t good cycles, of the bits, of the bits in the cycle before, and
-- of the words
pub record IsAt (flat : Flat) (setup : Setup) (t : ℕ) (known old memory : List Part) : Type 0 where
  pub row : ℕ → Row
  pub word : ℕ → ℕ → Row
  pub is_known : IsKnown flat setup (suc t) row word
  pub good : (s : ℕ) → s < t → IsGoodCycle flat setup (row s)
  pub now : row t ≡ row_of known
  pub earlier : (b : ℕ) → row_of old b ≡ row (before t) b
  pub words : HoldsWords memory (word t)

-- before the first cycle a simulation has the words that the memory starts with; after each cycle it has what is known
-- in that cycle, and the cycle's first fault
abbrev pub StandsAt : Simulation → ℕ → Type 0
StandsAt sim zero =
    (sim.fault ≡ None) × HoldsWords sim.memory (start_word parts sim.setup.table sim.setup.words)
StandsAt sim (suc t) =
    IsAt sim.gates.flat sim.setup t sim.known sim.old sim.memory
    × IsCycleFault sim.gates.flat sim.setup (row_of sim.known) t sim.fault

-- a simulation of a setup that is bound to its netlist
pub record IsSimulation (sim : Simulation) : Type 0 where
  pub built : IsBuilt sim.gates
  pub bound : IsBoundTo sim.gates.flat sim.setup
  pub known_long : length sim.known ≡ sim.gates.flat.bits
  pub old_long : length sim.old ≡ sim.gates.flat.bits
  pub stands : StandsAt sim sim.cycles

-- a bit that is known in a cycle has that value in every run
abbrev pub IsInEveryRun : Flat → Setup → ℕ → Row → Type 0
IsInEveryRun flat setup t row =
    (choice : Choice) (v : ℕ → Valuation) (m : ℕ → Memory) → IsRun flat setup (suc t) choice v m
    → (b : ℕ) → Allows (row b) (v t b)

abbrev pub simulation_of : Gates → Setup → ℕ → Snapshot → Option SimFault → Simulation
simulation_of gates setup cycles rows fault = record {
  gates = gates;
  setup = setup;
  cycles = cycles;
  known = rows.known.items;
  old = rows.before.items;
  memory = rows.memory.items;
  fault = fault;
}

-- a simulation before the first cycle
pub record IsNewSimulation (gates : Gates) (setup : Setup) (sim : Simulation) : Type 0 where
  pub gates_are : sim.gates ≡ gates
  pub setup_is : sim.setup ≡ setup
  pub no_cycle : sim.cycles ≡ 0
  pub no_fault : sim.fault ≡ None
  pub simulation : IsSimulation sim

-- a simulation after a call: of the next cycle, or as it was where it has a fault
pub record IsAfterNext (old new : Simulation) : Type 0 where
  pub gates_stay : new.gates ≡ old.gates
  pub setup_stays : new.setup ≡ old.setup
  pub next : old.fault ≡ None → new.cycles ≡ suc old.cycles
  pub stays : IsSome old.fault → new ≡ old

-- what a simulation that stands in a cycle shows
pub record HasShown (sim : Simulation) : Type 0 where
  pub cycle : ℕ
  pub is : sim.cycles ≡ suc cycle
  pub shown : IsShownAt sim.gates.flat sim.setup cycle sim.known sim.old
  pub fault : IsCycleFault sim.gates.flat sim.setup (row_of sim.known) cycle sim.fault

-- what is kept of a good cycle, before the cycle of a number
pub record IsBefore (flat : Flat) (setup : Setup) (cycle : ℕ) (known old memory : List Part) : Type 0 where
  pub past : ℕ
  pub follows : cycle ≡ suc past
  pub at : IsAt flat setup past known old memory
  pub good : IsGoodCycle flat setup (row_of known)

-- what a simulation without a fault has before the cycle of a number
abbrev pub IsReady : Flat → Setup → ℕ → List Part → List Part → List Part → Type 0
IsReady flat setup zero known old memory = HoldsWords memory (start_word parts setup.table setup.words)
IsReady flat setup (suc t) known old memory = IsAt flat setup t known old memory × IsGoodCycle flat setup (row_of known)

abbrev pub IsReadyWith : Flat → Setup → ℕ → Snapshot → Type 0
IsReadyWith flat setup cycle rows = IsReady flat setup cycle rows.known.items rows.before.items rows.memory.items

abbrev pub IsBeforeWith : Flat → Setup → ℕ → Snapshot → Type 0
IsBeforeWith flat setup cycle rows = IsBefore flat setup cycle rows.known.items rows.before.items rows.memory.items

abbrev pub IsAtWith : Flat → Setup → ℕ → Snapshot → Type 0
IsAtWith flat setup cycle rows = IsAt flat setup cycle rows.known.items rows.before.items rows.memory.items

-- the first unknown control, or all controls that apply are known
abbrev pub IsFirstUnknown : Setup → Row → Option ℕ → Type 0
IsFirstUnknown setup row control = MatchOption control (AreControlsKnown setup row) (IsControlFault setup row)

-- the first flop whose reset is active, or none is
abbrev pub IsFirstActive : Flat → Row → Option ℕ → Type 0
IsFirstActive flat row flop = MatchOption flop (HasNoReset flat row) (IsFirstWith (IsResetActive row) flat.flops)

-- what a simulation knows in a cycle is so in every run
abbrev pub IsInRuns : Simulation → ℕ → Type 0
IsInRuns sim t = IsInEveryRun sim.gates.flat sim.setup t (row_of sim.known)

-- the number on the net of the program counter
abbrev pub pc_of : Simulation → ℕ
pc_of sim = number_on (ones (row_of sim.known)) sim.setup.pc

-- a number is that on the net of the program counter in every run, in the cycle in which a simulation stands
abbrev pub IsPcInRuns : Simulation → ℕ → Type 0
IsPcInRuns sim number =
    (choice : Choice) (v : ℕ → Valuation) (m : ℕ → Memory) → IsRun sim.gates.flat sim.setup sim.cycles choice v m
    → number ≡ number_on (v (before sim.cycles)) sim.setup.pc

-- a simulation past a good cycle: all cycles so far are good, and in the last it knows what is known
pub record HasStepped (sim : Simulation) (t : ℕ) : Type 0 where
  pub row : ℕ → Row
  pub word : ℕ → ℕ → Row
  pub stepped : IsStepped sim.gates.flat sim.setup (suc t) row word
  pub now : row t ≡ row_of sim.known
