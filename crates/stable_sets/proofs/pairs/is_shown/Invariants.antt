use Rattle.std.proofs.Common.{◌≡◌, ℕ, ◌<◌}
use Rattle.std.specs.Prelude.{slice_get, Some}
use Rattle.coco_base.specs.declared.finding.Probe.{Probe}
use Rattle.stable_sets.specs.Shown.{IsShownBy}
use Rattle.stable_sets.proofs.pairs.is_shown.Given as goal

abbrev pub invariant-probes : goal.invariant-probes
invariant-probes l =
    (k : ℕ) (p : Probe) → k < l.place → slice_get l.probes k ≡ Some p
    → IsShownBy l.look.graph.now.flat l.look.unrolled.now.cycles l.look.window l.look.rows.now p l.fn.pair → ⊥
