-- The laws of findings over an unrolled run as a value, as facts that contracts name.
use Rattle.std.specs.Prelude.{◌≡◌, ℕ, Bool, List, length}
use Rattle.coco_base.specs.declared.cell.Kind.{Kind}
use Rattle.coco_base.specs.declared.cell.Part.{Part}
use Rattle.coco_base.specs.declared.unrolled.Node.{Node}
use Rattle.coco_base.specs.declared.unrolled.Node.TheVariants.{Gate}
use Rattle.coco_base.specs.declared.netlist.Flat.{Flat}
use Rattle.coco_base.specs.declared.setup.Setup.{Setup}
use Rattle.coco_base.specs.declared.finding.Probe.{Probe}
use Rattle.coco_base.specs.declared.unrolled.Unrolled.{Unrolled}
use Rattle.coco_model.specs.Netlist.{IsRanked, HasOneDriver, IsInRange}
use Rattle.coco_model.specs.Setups.{IsBoundTo}
use Rattle.coco_model.specs.Reach.{Reach, IsReach}
use Rattle.coco_model.specs.Findings.{Labels, HasFinding}
use Rattle.coco_model.specs.WrittenFindings.{ProbedRun, IsWrittenFinding, HasLeakingTry}
use Rattle.coco_model.specs.Matters.{AreMattering, IsLeastChoice, HasNeededTry}
use Rattle.coco_model.specs.UnrolledRuns.{IsUnrolledOf, probed_run}

-- a netlist without loops and with one driver for each bit, a setup that is bound to it, its unrolled run, and what
-- probes reach
pub record UnrolledRun (flat : Flat) (setup : Setup) (cycles : ℕ) : Type 0 where
  pub rank : ℕ → ℕ
  pub ranked : IsRanked flat rank
  pub driven : HasOneDriver flat
  pub range : IsInRange flat
  pub bound_to : IsBoundTo flat setup
  pub unrolled : Unrolled
  pub is : IsUnrolledOf flat setup cycles unrolled
  pub reach : Reach
  pub reached : IsReach flat setup cycles reach

-- such a run as probes of a window see it: its nodes alone tell what is unknown
abbrev pub seen_run : (flat : Flat) (setup : Setup) (cycles : ℕ) → UnrolledRun flat setup cycles → ℕ → ProbedRun
seen_run flat setup cycles run window = probed_run run.unrolled setup.clock window run.reach

-- where a finding of an order exists, a try over the unrolled run is one
unfoldable pub SomeTryLaw : Type 0
SomeTryLaw =
    (flat : Flat) (setup : Setup) (cycles : ℕ) (run : UnrolledRun flat setup cycles) (window d : ℕ)
    → HasFinding flat setup cycles window d → HasLeakingTry (seen_run flat setup cycles run window) d

-- a written finding over the unrolled run is a finding
unfoldable pub TryFindsLaw : Type 0
TryFindsLaw =
    (flat : Flat) (setup : Setup) (cycles : ℕ) (run : UnrolledRun flat setup cycles) (window d : ℕ)
    → (probes pairs : List Probe) (numbers : List ℕ) (sets : ℕ → Labels)
    → IsWrittenFinding (seen_run flat setup cycles run window) d probes pairs numbers sets
    → HasFinding flat setup cycles window d

-- each node has a least choice
pub record HasLeastChoice (node : Node) : Type 0 where
  pub number : ℕ
  pub least : IsLeastChoice number node

unfoldable pub LeastChoiceLaw : Type 0
LeastChoiceLaw =
    (node : Node)
    → ((kind : Kind) (parts : List Part) (operands : List ℕ) → node ≡ Gate kind parts operands → length parts ≡ 4)
    → HasLeastChoice node

-- where a finding of an order exists, so does a try that chooses nothing but at nodes that matter and is one
unfoldable pub NeededTryLaw : Type 0
NeededTryLaw =
    (flat : Flat) (setup : Setup) (cycles : ℕ) (run : UnrolledRun flat setup cycles) (window d : ℕ)
    → (matters : ℕ → Bool) → AreMattering run.unrolled.nodes matters
    → HasFinding flat setup cycles window d → HasNeededTry (seen_run flat setup cycles run window) d
