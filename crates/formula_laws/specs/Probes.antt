-- The law of probes: what the clauses about probes choose are the probes and the pairs of a candidate.
use Rattle.std.specs.Prelude.{◌≡◌, ℕ, ◌<◌, ◌≤◌, true, List, length, Contains, ◌↔◌}
use Rattle.coco_base.specs.declared.finding.Probe.{Probe}
use Rattle.coco_base.specs.declared.unrolled.Unrolled.{Unrolled}
use Rattle.coco_model.specs.Findings.{IsSeen}
use Rattle.coco_model.specs.Reach.{Reach}
use Rattle.coco_model.specs.Secure.{IsProbe, moments}
use Rattle.coco_model.specs.WrittenFindings.{ProbedRun, AreAscending}
use Rattle.label_cone.specs.Coned.{Coned}
use Rattle.probe_clauses.specs.RunViews.{RunView}
use Rattle.probe_clauses.specs.Probings.{probing_of}
use Rattle.probe_laws.specs.Showing.{Choice, IsProbeChoice}
use Rattle.formula_laws.specs.Runs.{IsFormulaRun, seen_in}

-- a list has the bits and cycles of a choice, by cycle and then by bit
pub record AreListed (choice : Choice) (list : List Probe) : Type 0 where
  pub ascending : AreAscending list
  pub members : (p : Probe) → Contains list p ↔ (choice p.cycle p.bit ≡ true)

-- the probes and the pairs of a candidate, whatever its selection
pub record AreProbesOf (run : ProbedRun) (d : ℕ) (probes pairs : List Probe) : Type 0 where
  pub some : 0 < length probes
  pub most : length probes ≤ d
  pub each : (p : Probe) → Contains probes p → IsProbe run.bits run.clock run.cycles p
  pub ascending : AreAscending probes
  pub in_order : AreAscending pairs
  pub seen : (u : Probe) → Contains pairs u → IsSeen run.row run.reach (moments run.cycles run.window probes) u

unfoldable pub ProbesLaw : Type 0
ProbesLaw =
    (view : RunView) (u : Unrolled) (coned : Coned) (reach : Reach) → IsFormulaRun view u coned reach
    → (probes pairs : Choice) (listed shown : List Probe) → AreListed probes listed → AreListed pairs shown
    → IsProbeChoice (probing_of view) probes pairs ↔ AreProbesOf (seen_in view u reach) view.order listed shown
