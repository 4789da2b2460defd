-- The laws of findings, over the one meaning of a run, and of cones, as facts that contracts name.
use Rattle.std.specs.Prelude.{◌≡◌, ℕ, ◌<◌, true, List}
use Rattle.coco_base.specs.declared.netlist.Flat.{Flat}
use Rattle.coco_base.specs.declared.setup.Setup.{Setup}
use Rattle.coco_base.specs.declared.finding.Probe.{Probe}
use Rattle.coco_model.specs.Known.{Row}
use Rattle.coco_model.specs.Reach.{Reach, IsReach}
use Rattle.coco_model.specs.Roots.{Root, IsRooted}
use Rattle.coco_model.specs.Findings.{Labels, IsSelection, IsFinding, HasFinding}
use Rattle.coco_model.specs.Cones.{IsInRootCone, IsCovered}
use Rattle.walsh_laws.specs.Security.{SimulatedRun}

-- a finding over what is known, what probes reach and the roots
pub record HasFindingOver (flat : Flat) (setup : Setup) (cycles window d : ℕ) (row : ℕ → Row) (reach : Reach)
    (root : ℕ → ℕ → Root) : Type 0 where
  pub probes : List Probe
  pub pairs : List Probe
  pub set_of : Root → Labels
  pub finding : IsFinding flat setup cycles window d row reach root probes pairs set_of

-- where a finding exists, it is one over what was simulated
unfoldable pub OneFindingLaw : Type 0
OneFindingLaw =
    (flat : Flat) (setup : Setup) (cycles : ℕ) (sim : SimulatedRun flat setup cycles)
    → (root : ℕ → ℕ → Root) (rooted : ℕ → ℕ → ℕ → Root) → IsRooted flat setup cycles sim.row root rooted
    → (reach : Reach) → IsReach flat setup cycles reach
    → (window d : ℕ) → HasFinding flat setup cycles window d
    → HasFindingOver flat setup cycles window d sim.row reach root

-- the sets of a selection lie in the cones of the roots
unfoldable pub SelectionConeLaw : Type 0
SelectionConeLaw =
    (flat : Flat) (setup : Setup) (cycles : ℕ) (sim : SimulatedRun flat setup cycles)
    → (root : ℕ → ℕ → Root) (rooted : ℕ → ℕ → ℕ → Root) → IsRooted flat setup cycles sim.row root rooted
    → (set_of : Root → Labels) → IsSelection flat cycles sim.row root set_of
    → (t b l : ℕ) → t < cycles → b < flat.bits → set_of (root t b) l ≡ true
    → IsInRootCone flat sim.row root l (root t b)

-- a run with a finding is covered, so one that is not covered is secure
unfoldable pub CoverLaw : Type 0
CoverLaw =
    (flat : Flat) (setup : Setup) (cycles : ℕ) (sim : SimulatedRun flat setup cycles)
    → (root : ℕ → ℕ → Root) (rooted : ℕ → ℕ → ℕ → Root) → IsRooted flat setup cycles sim.row root rooted
    → (reach : Reach) → IsReach flat setup cycles reach
    → (window d : ℕ) → HasFinding flat setup cycles window d → IsCovered flat setup cycles window sim.row reach root
