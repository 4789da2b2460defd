use Rattle.std.proofs.Common.{◌≡◌, ℕ, ◌<◌}
use Rattle.std.specs.Prelude.{slice_get, Some}
use Rattle.coco_base.specs.declared.finding.Probe.{Probe}
use Rattle.coco_model.specs.Secure.{IsProbe}
use Rattle.stable_sets.proofs.order.are_probes.Given as goal

abbrev pub invariant-probes : goal.invariant-probes
invariant-probes l =
    (k : ℕ) (p : Probe) → k < l.place → slice_get l.probes k ≡ Some p → IsProbe l.unrolled.bits l.clock l.unrolled.cycles p
