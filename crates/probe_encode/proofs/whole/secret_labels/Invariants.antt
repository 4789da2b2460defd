use Rattle.std.proofs.Common.{◌≡◌, take}
use Rattle.coco_model.specs.Labels.{secret_labels}
use Rattle.probe_encode.proofs.whole.secret_labels.Given as goal

abbrev pub invariant-secrets : goal.invariant-secrets
invariant-secrets l = l.sets ≡ secret_labels (take l.secret-index l.secrets)
