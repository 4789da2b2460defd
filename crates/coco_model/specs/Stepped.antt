-- A run that is simulated without a fault, the faults of a cycle in their order, and what a simulation shows.
use Rattle.std.specs.Prelude.{◌≡◌, ℕ, suc, ◌<◌, List, get_or, slice_get, Contains, Some}
use Rattle.coco_base.specs.declared.netlist.Flat.{Flat}
use Rattle.coco_base.specs.declared.netlist.FlatFlop.{FlatFlop}
use Rattle.coco_base.specs.declared.cell.Part.{Part}
use Rattle.coco_base.specs.declared.cell.Part.TheVariants.{Zero}
use Rattle.coco_base.specs.declared.setup.MemPlan.{MemPlan}
use Rattle.coco_base.specs.declared.setup.Setup.{Setup}
use Rattle.coco_model.specs.Run.{before}
use Rattle.coco_model.specs.Carried.{number_on}
use Rattle.coco_model.specs.Known.{Row, ones, IsKnown}
use Rattle.coco_model.specs.Controls.{AreControlsKnown, IsUnknownControl, IsResetActive, IsOutside}

-- no reset is active in a cycle
abbrev pub HasNoReset : Flat → Row → Type 0
HasNoReset flat row = (f : FlatFlop) → Contains flat.flops f → IsResetActive row f → ⊥

-- no memory port asks for what is outside the memory's regions
abbrev pub HasNoOutside : Setup → Row → Type 0
HasNoOutside setup row = (mem : MemPlan) → Contains setup.memories mem → IsOutside row mem → ⊥

-- nothing is at fault in a cycle: the controls that apply are known, no reset is active, and no request is outside
pub record IsGoodCycle (flat : Flat) (setup : Setup) (row : Row) : Type 0 where
  pub controls : AreControlsKnown setup row
  pub resets : HasNoReset flat row
  pub inside : HasNoOutside setup row

-- what is known of a run in which no cycle has a fault
pub record IsStepped (flat : Flat) (setup : Setup) (cycles : ℕ) (row : ℕ → Row) (word : ℕ → ℕ → Row) : Type 0 where
  pub known : IsKnown flat setup cycles row word
  pub good : (t : ℕ) → t < cycles → IsGoodCycle flat setup (row t)

-- a run in which no cycle has a fault
pub record HasNoFault (flat : Flat) (setup : Setup) (cycles : ℕ) : Type 0 where
  pub row : ℕ → Row
  pub word : ℕ → ℕ → Row
  pub stepped : IsStepped flat setup cycles row word

-- the first place of a list at which P holds
pub record IsFirstWith {X : Type 0} (P : X → Type 0) (xs : List X) (place : ℕ) : Type 0 where
  pub member : X
  pub at : slice_get xs place ≡ Some member
  pub holds : P member
  pub none_before : (k : ℕ) (x : X) → k < place → slice_get xs k ≡ Some x → P x → ⊥

-- the faults of a cycle, in their order: each is the first of its kind, where no kind before it is there. First, an
-- unknown control, by its number in the setup
abbrev pub IsControlFault : Setup → Row → ℕ → Type 0
IsControlFault setup row control = IsFirstWith (IsUnknownControl setup row) setup.controls control

-- then an active reset, by the number of its flop
pub record IsResetFault (flat : Flat) (setup : Setup) (row : Row) (flop : ℕ) : Type 0 where
  pub controls : AreControlsKnown setup row
  pub first : IsFirstWith (IsResetActive row) flat.flops flop

-- then a request outside the regions, by the number on the address wires
pub record IsAddressFault (flat : Flat) (setup : Setup) (row : Row) (address : ℕ) : Type 0 where
  pub controls : AreControlsKnown setup row
  pub resets : HasNoReset flat row
  pub place : ℕ
  pub first : IsFirstWith (IsOutside row) setup.memories place
  pub asked : address ≡ number_on (ones row) first.member.address

-- what comes of a cycle: nothing is at fault, or the first fault
pub data Outcome : Type 0 where
  good : Outcome
  control : (number : ℕ) → Outcome
  reset : (flop : ℕ) → Outcome
  outside : (address : ℕ) → Outcome

abbrev pub IsOutcome : Flat → Setup → Row → Outcome → Type 0
IsOutcome flat setup row good = IsGoodCycle flat setup row
IsOutcome flat setup row (control number) = IsControlFault setup row number
IsOutcome flat setup row (reset flop) = IsResetFault flat setup row flop
IsOutcome flat setup row (outside address) = IsAddressFault flat setup row address

-- the row that a list of parts tells; a bit behind its end is known as 0
abbrev pub row_of : List Part → Row
row_of parts b = get_or parts b Zero

-- a simulation that stands in cycle t, past t good cycles, shows what is known, in this cycle and in the one before
pub record IsShownAt (flat : Flat) (setup : Setup) (t : ℕ) (known old : List Part) : Type 0 where
  pub row : ℕ → Row
  pub word : ℕ → ℕ → Row
  pub is_known : IsKnown flat setup (suc t) row word
  pub good : (s : ℕ) → s < t → IsGoodCycle flat setup (row s)
  pub now : (b : ℕ) → row_of known b ≡ row t b
  pub earlier : (b : ℕ) → row_of old b ≡ row (before t) b
