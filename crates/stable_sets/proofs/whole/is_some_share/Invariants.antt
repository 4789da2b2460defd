use Rattle.std.proofs.Common.{◌≡◌, ℕ, ◌<◌}
use Rattle.std.specs.Prelude.{slice_get, Some}
use Rattle.coco_base.specs.declared.labels.SecretPlan.{SecretPlan}
use Rattle.stable_sets.specs.Shares.{IsShareOf}
use Rattle.stable_sets.proofs.whole.is_some_share.Given as goal

abbrev pub invariant-secrets : goal.invariant-secrets
invariant-secrets l = (k : ℕ) (s : SecretPlan) → k < l.place → slice_get l.secrets k ≡ Some s → IsShareOf s l.label → ⊥
