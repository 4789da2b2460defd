use Rattle.std.proofs.Common.{◌≡◌, ℕ, ◌<◌}
use Rattle.std.specs.Prelude.{slice_get, Some}
use Rattle.coco_base.specs.declared.finding.Probe.{Probe}
use Rattle.stable_sets.specs.Shown.{IsSeenPair}
use Rattle.stable_sets.proofs.pairs.are_seen.Given as goal

abbrev pub invariant-pairs : goal.invariant-pairs
invariant-pairs l =
    (k : ℕ) (p : Probe) → k < l.place → slice_get l.pairs k ≡ Some p
    → IsSeenPair l.look.graph.now.flat l.look.window l.look.rows.now l.look.unrolled.now l.probes p
