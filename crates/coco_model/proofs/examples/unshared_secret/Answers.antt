use Rattle.coco_model.proofs.Unshared.{unshared_finding}
use Rattle.coco_model.proofs.examples.unshared_secret.Goals as goal

pub returns : goal.returns
returns c = unshared_finding
