-- Laws of runs by their definitions alone, as facts that contracts name: the faults of a cycle, fewer cycles, the order
-- by rank, and windows.
use Rattle.std.specs.Prelude.{◌≡◌, ℕ, ◌<◌, ◌≤◌, List, [], ◌∷◌, slice_get, Contains, Some}
use Rattle.coco_base.specs.declared.netlist.Flat.{Flat}
use Rattle.coco_base.specs.declared.netlist.FlatCell.{FlatCell}
use Rattle.coco_base.specs.declared.setup.Setup.{Setup}
use Rattle.coco_base.specs.declared.finding.Probe.{Probe}
use Rattle.coco_model.specs.Netlist.{Valuation, IsRanked}
use Rattle.coco_model.specs.Labels.{Choice}
use Rattle.coco_model.specs.Run.{Memory, IsRun}
use Rattle.coco_model.specs.Known.{Row, IsKnown}
use Rattle.coco_model.specs.Reach.{Reach}
use Rattle.coco_model.specs.Secure.{moments}
use Rattle.coco_model.specs.Events.{IsCellOrder}
use Rattle.coco_model.specs.Roots.{Root, IsRooted}
use Rattle.coco_model.specs.Cones.{IsCovered}
use Rattle.coco_model.specs.Stepped.{Outcome, IsOutcome, IsGoodCycle, IsControlFault, IsResetFault, IsAddressFault}

-- of a good cycle no number tells a fault
pub record HasNoFaultIn (flat : Flat) (setup : Setup) (row : Row) : Type 0 where
  pub no_control : (number : ℕ) → IsControlFault setup row number → ⊥
  pub no_reset : (flop : ℕ) → IsResetFault flat setup row flop → ⊥
  pub no_address : (address : ℕ) → IsAddressFault flat setup row address → ⊥

unfoldable pub GoodCycleLaw : Type 0
GoodCycleLaw = (flat : Flat) (setup : Setup) (row : Row) → IsGoodCycle flat setup row → HasNoFaultIn flat setup row

-- a cycle has one outcome: it is good or has a first fault, and never two of them
pub record HasOneOutcome (flat : Flat) (setup : Setup) (row : Row) : Type 0 where
  pub outcome : Outcome
  pub is : IsOutcome flat setup row outcome
  pub one : (other : Outcome) → IsOutcome flat setup row other → other ≡ outcome

unfoldable pub OneOutcomeLaw : Type 0
OneOutcomeLaw = (flat : Flat) (setup : Setup) (row : Row) → HasOneOutcome flat setup row

-- what holds of a run, of what is known and of the roots over some cycles holds over fewer
pub record HoldsOverFewer (flat : Flat) (setup : Setup) (cycles fewer : ℕ) : Type 0 where
  pub runs : (choice : Choice) (v : ℕ → Valuation) (m : ℕ → Memory) → IsRun flat setup cycles choice v m
      → IsRun flat setup fewer choice v m
  pub known : (row : ℕ → Row) (word : ℕ → ℕ → Row) → IsKnown flat setup cycles row word
      → IsKnown flat setup fewer row word
  pub roots : (row : ℕ → Row) (root : ℕ → ℕ → Root) (word : ℕ → ℕ → ℕ → Root)
      → IsRooted flat setup cycles row root word → IsRooted flat setup fewer row root word

unfoldable pub FewerCyclesLaw : Type 0
FewerCyclesLaw = (flat : Flat) (setup : Setup) (cycles fewer : ℕ) → fewer ≤ cycles
    → HoldsOverFewer flat setup cycles fewer

-- numbers of cells, no output before one of a lower rank
abbrev pub AreByRank : Flat → (ℕ → ℕ) → List ℕ → Type 0
AreByRank flat rank [] = Unit {0}
AreByRank flat rank (i ∷ is) =
    (c : FlatCell) × (slice_get flat.cells i ≡ Some c)
    × ((j : ℕ) (d : FlatCell) → Contains is j → slice_get flat.cells j ≡ Some d → rank c.output ≤ rank d.output)
    × AreByRank flat rank is

-- the numbers of all cells by rank are an order of cells: each comes after those whose outputs it reads
unfoldable pub RankOrderLaw : Type 0
RankOrderLaw =
    (flat : Flat) (rank : ℕ → ℕ) → IsRanked flat rank → (order : List ℕ) → AreByRank flat rank order
    → ((i : ℕ) (c : FlatCell) → slice_get flat.cells i ≡ Some c → Contains order i) → IsCellOrder flat [] order

-- probes that last one cycle are their own moments, so what is said of windows of one cycle is said of probes alone
unfoldable pub OneCycleLaw : Type 0
OneCycleLaw =
    (cycles : ℕ) (probes : List Probe) → ((p : Probe) → Contains probes p → p.cycle < cycles)
    → moments cycles 1 probes ≡ probes

-- a run that is covered for one window is covered for each
unfoldable pub CoveredWindowLaw : Type 0
CoveredWindowLaw =
    (flat : Flat) (setup : Setup) (cycles window other : ℕ) → 0 < other
    → (row : ℕ → Row) (reach : Reach) (root : ℕ → ℕ → Root)
    → IsCovered flat setup cycles window row reach root → IsCovered flat setup cycles other row reach root
